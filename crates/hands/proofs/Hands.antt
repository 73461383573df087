-- Hands of tiles drawn from a pool: the counting theorem, a leave's count and sum by racks, what can be drawn, bounds. Assumes nothing.
use Rattle.std.specs.Prelude.{◌≡◌, Bool, true, false, cond, length, get_or, T, leb, ℤ, pos, ◌*ℤ◌, nat_abs}
use Rattle.std.proofs.Math.Path.{refl, sym, ap}
use Rattle.std.proofs.Common.{◌∙◌, mul-one, suc-ne-zero, zero-lt-suc, lt_of_not-le, zero-mul, mul-pos, mul-le-mul_right, le_trans, mul-zero, arith, leb→le, le→leb}
use mathlib.Core.List.{List, [], ◌∷◌, ◌++◌, map, Memᴰ}
use Prim.Native.Nat.{ℕ, zero, suc, ◌*◌, ◌-◌, ◌≤◌, ◌<◌}
use Rattle.std.proofs.Math.Nat.{suc_inj}
use Rattle.std.proofs.lemmas.List.{length-map}
use Rattle.std.proofs.Math.Decide.{dec_le}
use Rattle.laws.specs.Sums.{sum_member, Additive, naturals, integers, sum_in, sum_over, sum_over_ℤ, bit, sum_cong, sum_cong_on, sum_times, sum_const, mul_times, times_one, times_none, cond_times, length_sum, sum_select, sum_le, sum_bound}
use Rattle.laws.specs.Lists.{upto, length_upto}
use Rattle.laws.specs.Every.{every, every_weaken, every_both}
use Rattle.laws.specs.Tests.{T-both, T-left, T-right}
use Rattle.lattice.specs.Tally.{total, tallies}
use Rattle.binomials.specs.Binomial.{binomial, positive, binomial_above}
use Rattle.hands.specs.Choose.{choose, length_choose, choose_length, choose_every, sum_choose_append}
use Rattle.hands.specs.Hands.{Tile, tiles_from, hands, rack_from, rack_of, ways, holds, holding, hand_count, hand_sum, tiles_letter, tiles_from_lem, rack_join, sum_tallies, hands_count, cond_le, ways_bound}

-- ---- the counting theorem
module _ (𝓜 : Additive) where
  open 𝓜 use {Carrier, none, plus, times}

  sum_hands_from : (i : ℕ) (pool : List ℕ) (r : ℕ) (f : List ℕ → Carrier)
      → sum_in 𝓜 (choose r (tiles_from i pool)) (λ h. f (rack_from i (length pool) h)) ≡ sum_in 𝓜 (tallies (length pool) r) (λ t. times (ways pool t) (f t))
  unfolding tallies
  sum_hands_from i [] zero f = ap (λ a. plus a none) (sym (times_one 𝓜 (f [])))
  sum_hands_from i [] (suc r) f = refl
  sum_hands_from i (u ∷ us) r f =
      sum_choose_append 𝓜 r own rest _ ∙ sum_cong 𝓜 (upto (suc r)) (λ c. step c (sum_hands_from (suc i) us (r - c) (λ t. f (c ∷ t)))) ∙ sym (sum_tallies 𝓜 (length us) r _)
    where
      own : List Tile
      own = map (λ k. (i, k)) (upto u)

      rest : List Tile
      rest = tiles_from (suc i) us

      own_count : (c : ℕ) → length (choose c own) ≡ binomial u c
      own_count c = length_choose c own ∙ ap (λ n. binomial n c) (length-map (upto u) (λ k. (i, k)) ∙ length_upto u)

      step : (c : ℕ)
          → sum_in 𝓜 (choose (r - c) rest) (λ b. f (c ∷ rack_from (suc i) (length us) b)) ≡ sum_in 𝓜 (tallies (length us) (r - c)) (λ t. times (ways us t) (f (c ∷ t)))
          → sum_in 𝓜 (choose c own) (λ a. sum_in 𝓜 (choose (r - c) rest) (λ b. f (rack_from i (suc (length us)) (a ++ b))))
          ≡ sum_in 𝓜 (tallies (length us) (r - c)) (λ t. times (ways (u ∷ us) (c ∷ t)) (f (c ∷ t)))
      step c ih =
          sum_cong_on 𝓜 (every_weaken
          (λ a h. sum_cong_on 𝓜 (every_weaken (λ b e. ap f (rack_join i (length us) c h.0 h.1 e)) (choose_every (r - c) (tiles_from_lem (suc i) us))))
          (every_both (choose_length c own) (choose_every c (tiles_letter i u))))
          ∙ sum_const 𝓜 (choose c own) (sum_in 𝓜 (choose (r - c) rest) (λ b. f (c ∷ rack_from (suc i) (length us) b)))
          ∙ ap (λ n. times n (sum_in 𝓜 (choose (r - c) rest) (λ b. f (c ∷ rack_from (suc i) (length us) b)))) (own_count c)
          ∙ ap (times (binomial u c)) ih
          ∙ sym (sum_times 𝓜 (binomial u c) (tallies (length us) (r - c)) (λ t. times (ways us t) (f (c ∷ t))))
          ∙ sum_cong 𝓜 (tallies (length us) (r - c)) (λ t. sym (mul_times 𝓜 (binomial u c) (ways us t) (f (c ∷ t))))

  -- a sum over the hands is the sum over the racks, each taken as often as it is drawn
  pub sum_hands : (pool : List ℕ) (r : ℕ) (f : List ℕ → Carrier)
      → sum_in 𝓜 (hands pool r) (λ h. f (rack_of (length pool) h)) ≡ sum_in 𝓜 (tallies (length pool) r) (λ t. times (ways pool t) (f t))
  sum_hands pool r f = sum_hands_from 0 pool r f

-- the two readings of it
pub sum_hands-ℕ : (pool : List ℕ) (r : ℕ) (f : List ℕ → ℕ)
    → sum_over (hands pool r) (λ h. f (rack_of (length pool) h)) ≡ sum_over (tallies (length pool) r) (λ t. ways pool t * f t)
sum_hands-ℕ = sum_hands naturals

pub sum_hands-ℤ : (pool : List ℕ) (r : ℕ) (f : List ℕ → ℤ)
    → sum_over_ℤ (hands pool r) (λ h. f (rack_of (length pool) h)) ≡ sum_over_ℤ (tallies (length pool) r) (λ t. pos (ways pool t) *ℤ f t)
sum_hands-ℤ = sum_hands integers

-- Vandermonde's identity
pub ways_total : (pool : List ℕ) (r : ℕ) → sum_over (tallies (length pool) r) (ways pool) ≡ binomial (total pool) r
ways_total pool r =
    sum_cong naturals (tallies (length pool) r) (λ t. sym (mul-one (ways pool t))) ∙ sym (sum_hands-ℕ pool r (λ t. 1)) ∙ sym (length_sum (hands pool r)) ∙ hands_count pool r

-- ---- a leave's count and sum, by racks
module _ (𝓜 : Additive) where
  open 𝓜 use {Carrier, none, plus, times}

  times_cond : (n : ℕ) (b : Bool) (a : Carrier) → times n (cond b a none) ≡ cond b (times n a) none
  times_cond n true a = refl
  times_cond n false a = times_none 𝓜 n

  pub sum_holding : (pool : List ℕ) (r : ℕ) (leave : List ℕ) (f : List ℕ → Carrier)
      → sum_in 𝓜 (holding pool r leave) (λ h. f (rack_of (length pool) h)) ≡ sum_in 𝓜 (tallies (length pool) r) (λ t. cond (holds t leave) (times (ways pool t) (f t)) none)
  sum_holding pool r leave f =
      sum_select 𝓜 _ (hands pool r) _ ∙ sum_hands 𝓜 pool r (λ t. cond (holds t leave) (f t) none)
      ∙ sum_cong 𝓜 (tallies (length pool) r) (λ t. times_cond (ways pool t) (holds t leave) (f t))

pub hand_count_cond : (pool : List ℕ) (r : ℕ) (leave : List ℕ) → hand_count pool r leave ≡ sum_over (tallies (length pool) r) (λ t. cond (holds t leave) (ways pool t) 0)
hand_count_cond pool r leave =
    length_sum (holding pool r leave) ∙ sum_holding naturals pool r leave (λ t. 1)
    ∙ sum_cong naturals (tallies (length pool) r) (λ t. ap (λ w. cond (holds t leave) w 0) (mul-one (ways pool t)))

pub hand_sum_cond : (pool : List ℕ) (r : ℕ) (best : List ℕ → ℤ) (leave : List ℕ)
    → hand_sum pool r best leave ≡ sum_over_ℤ (tallies (length pool) r) (λ t. cond (holds t leave) (pos (ways pool t) *ℤ best t) (pos 0))
hand_sum_cond pool r best leave = sum_holding integers pool r leave best

-- the same with the test as a factor
pub hand_count_ways : (pool : List ℕ) (r : ℕ) (leave : List ℕ) → hand_count pool r leave ≡ sum_over (tallies (length pool) r) (λ t. bit (holds t leave) * ways pool t)
hand_count_ways pool r leave = hand_count_cond pool r leave ∙ sum_cong naturals (tallies (length pool) r) (λ t. cond_times naturals (holds t leave) (ways pool t))

pub hand_sum_ways : (pool : List ℕ) (r : ℕ) (best : List ℕ → ℤ) (leave : List ℕ)
    → hand_sum pool r best leave ≡ sum_over_ℤ (tallies (length pool) r) (λ t. pos (bit (holds t leave)) *ℤ (pos (ways pool t) *ℤ best t))
hand_sum_ways pool r best leave =
    hand_sum_cond pool r best leave ∙ sum_cong integers (tallies (length pool) r) (λ t. cond_times integers (holds t leave) (pos (ways pool t) *ℤ best t))

-- ---- a rack that can be drawn is one that the pool holds
pub drawable_ways : (pool t : List ℕ) → T (holds pool t) → 0 < ways pool t
drawable_ways [] [] h = zero-lt-suc 0
drawable_ways (u ∷ us) [] h = zero-lt-suc 0
drawable_ways (u ∷ us) (c ∷ cs) h =
    mul-pos (positive u c (leb→le c u (T-left (leb c u) (holds us cs) h))) (drawable_ways us cs (T-right (leb c u) (holds us cs) h))
drawable_ways [] (c ∷ cs) h = elim h [ ]

pub ways_drawable : (pool t : List ℕ) → length t ≡ length pool → 0 < ways pool t → T (holds pool t)
ways_drawable [] [] e h = tt
ways_drawable [] (c ∷ cs) e h = absurd (suc-ne-zero (length cs) e)
ways_drawable (u ∷ us) [] e h = tt
ways_drawable (u ∷ us) (c ∷ cs) e h = T-both (leb c u) (holds us cs) (first (dec_le c u)) (ways_drawable us cs (suc_inj e) (rest (ways us cs) h))
  where
    first : Dec (c ≤ u) → T (leb c u)
    first (yes l) = le→leb c u l
    first (no l) = absurd (omega (arith, (rw (binomial_above u c (lt_of_not-le l)) at h), zero-mul (ways us cs)))

    rest : (w : ℕ) → 0 < binomial u c * w → 0 < w
    rest zero k = absurd (omega arith)
    rest (suc w) k = zero-lt-suc w

-- a letter that the pool lacks
pub ways_lacking : (pool t : List ℕ) (i : ℕ) → length t ≡ length pool → i < length pool → get_or pool i 0 ≡ 0 → 0 < get_or t i 0 → ways pool t ≡ 0
ways_lacking [] t i l h e k = absurd (omega arith)
ways_lacking (u ∷ us) [] i l h e k = absurd (suc-ne-zero (length us) (sym l))
ways_lacking (u ∷ us) (c ∷ cs) zero l h e k = rw (binomial_above u c (omega arith)) (zero-mul (ways us cs))
ways_lacking (u ∷ us) (c ∷ cs) (suc i) l h e k = rw (ways_lacking us cs i (suc_inj l) (omega arith) e k) (mul-zero (binomial u c))

-- ---- bounds
pub ways_le : (pool : List ℕ) (r : ℕ) (t : List ℕ) → Memᴰ t (tallies (length pool) r) → ways pool t ≤ binomial (total pool) r
ways_le pool r t m = rw (← (ways_total pool r)) (sum_member (ways pool) m)

pub hand_count_le : (pool : List ℕ) (r : ℕ) (leave : List ℕ) → hand_count pool r leave ≤ binomial (total pool) r
hand_count_le pool r leave =
    rw (hand_count_cond pool r leave, ← (ways_total pool r)) (sum_le (every (λ t. cond_le (holds t leave) (ways pool t)) (tallies (length pool) r)))

-- each hand's best is within M wherever each rack that can be drawn has its best within M
module _ (pool : List ℕ) (r : ℕ) (best : List ℕ → ℤ) (M : ℕ) (within : (t : List ℕ) → length t ≡ length pool → total t ≡ r → 0 < ways pool t → nat_abs (best t) ≤ M) where
  pub hand_sum_bound : (leave : List ℕ) → nat_abs (hand_sum pool r best leave) ≤ hand_count pool r leave * M
  hand_sum_bound leave =
      rw (hand_sum_cond pool r best leave, hand_count_cond pool r leave)
      (sum_bound _ _ M (every_weaken (λ t h. one (holds t leave) (ways pool t) (pos (ways pool t) *ℤ best t) h) (ways_bound pool r best M within)))
    where
      one : (b : Bool) (w : ℕ) (z : ℤ) → nat_abs z ≤ w * M → nat_abs (cond b z (pos 0)) ≤ cond b w 0 * M
      one true w z h = h
      one false w z h = omega arith

  pub hand_sum_le : (leave : List ℕ) → nat_abs (hand_sum pool r best leave) ≤ binomial (total pool) r * M
  hand_sum_le leave = le_trans (hand_sum_bound leave) (mul-le-mul_right M (hand_count_le pool r leave))

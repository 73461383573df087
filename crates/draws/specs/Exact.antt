-- The walk in f64 loses nothing: its ways are whole numbers wherever 16 times the draws are at most 2 ^ 53, and its sums wherever the
-- draws times the largest size of a best are. Assumes nothing.
use Rattle.std.specs.Prelude.{◌≡◌, ℤ, ◌+ℤ◌, ◌*ℤ◌, Float}
use Rattle.std.proofs.Math.Path.{refl, ap}
use Rattle.std.proofs.Common.{sym, ap₂, ◌∙◌, le_refl, le_of_eq, add-zero, mul_assoc, mul_comm, mul-pos, mul-le-mul_left, mul-le-mul_right, lit≤}
use mathlib.Core.List.{List, [], ◌∷◌, ◌++◌, map}
use Prim.Native.Nat.{ℕ, zero, suc, ◌+◌, ◌-◌, ◌*◌, ◌^◌, ◌≤◌, ◌<◌, min, max}
use Rattle.std.proofs.Math.Decide.{dec_le}
use Rattle.std.proofs.Math.Nat.{le_trans, mul-one, add-mul}
use native.Mathlib.Omega.{arith}
use Rattle.std.proofs.Math.IntN.{pos, nat_abs, +ℤ_idr, +ℤ_assoc}
use Rattle.std.specs.Int.Signed.{mag}
use Rattle.std.specs.Float.Ieee.{binary64, add, mul, div}
use Rattle.laws.specs.Integer.{at_ℤ, nat_abs_add, nat_abs_mul}
use Rattle.laws.specs.Lists.{upto, upto_zero, upto_suc, concat_map, concat_map_one, concat_map_append, concat_map_cong, map_concat_map}
use Rattle.laws.specs.Every.{Every, every_nil, every_cons, every_concat_map, every_weaken, upto_below}
use Rattle.laws.specs.Sums.{sum_over, sum_over_ℤ}
use Rattle.whole.specs.Whole.{whole}
use Rattle.whole.proofs.Steps.{add_whole, add_mul_whole, mul_whole_nat, small_i32}
use Rattle.whole.proofs.Bounds.{Spread, spread_zero, spread_add, spread_mul}
use Rattle.binomials.specs.Binomial.{binomial, binomial_zero, positive}
use Rattle.lattice.specs.Tally.{total, total_nil, total_cons}
use Rattle.lattice.specs.Tallies.{tallies_all}
use Rattle.hands.proofs.Hands.{ways_le}
use Rattle.sums.proofs.Running.{running as turn}
use Rattle.sums.specs.Ascend.{ascend, running_small}
use Rattle.draws.specs.declared.walk.Totals.{Totals}
use Rattle.draws.specs.Draws.{largest}
use Rattle.draws.specs.Walk.{running, factor, product, climb, met, met_cons, met_end, met_short, met_lacking, gain, gains}

-- ---- the ways

binomial_one : (n : ℕ) → binomial n 1 ≡ n
unfolding binomial
binomial_one zero = refl
binomial_one (suc n) = omega (arith, binomial_zero n, binomial_one n)

module _ (u c : ℕ) (few : c ≤ 15) (inside : c ≤ u) (small : binomial u c * 16 ≤ 2 ^ 53) where
  tiles_small : 1 ≤ c → u ≤ 2 ^ 53
  tiles_small some = go (dec_le u 30)
    where
      go : Dec (u ≤ 30) → u ≤ 2 ^ 53
      go (yes h) = le_trans h (lit≤ tt)
      go (no h) =
          let l : 30 ≤ u = omega arith in
          omega (arith, binomial_one u, ascend u some few l)

  turns : (j : ℕ) → j ≤ c → running u j ≡ whole (pos (binomial u j))
  unfolding running
  turns zero h = ap (λ (k : ℕ). whole (pos k)) (sym (binomial_zero u))
  turns (suc j) h =
      let e : u - suc j + 1 ≡ u - j = omega arith in
      let one : suc j - 1 ≡ j = omega arith in
      let t = rw one at (turn u (suc j) (omega arith) (omega arith) (tiles_small (omega arith)) (running_small u c few small (suc j) h)) in
      ap (λ (x : Float). div binary64 (mul binary64 x (whole (pos (u - j)))) (whole (pos (suc j)))) (turns j (omega arith))
      ∙ ap (λ (k : ℕ). div binary64 (mul binary64 (whole (pos (binomial u j))) (whole (pos k))) (whole (pos (suc j)))) (sym e)
      ∙ t

  binomial_small : binomial u c ≤ 2 ^ 53
  binomial_small = omega arith

  factor_exact : (k : ℕ) → k ≤ 2 ^ 53 → factor (whole (pos k)) u c ≡ whole (pos (k * binomial u c))
  unfolding factor
  factor_exact k h = go c refl
    where
      go : (j : ℕ) → j ≡ c → factor (whole (pos k)) u j ≡ whole (pos (k * binomial u j))
      go zero e = ap (λ (x : ℕ). whole (pos x)) (sym (ap (k *◌) (binomial_zero u) ∙ mul-one k))
      go (suc j) e =
          ap (λ (j : ℕ). mul binary64 (whole (pos k)) (running u j)) e
          ∙ ap (mul binary64 (whole (pos k))) (turns c (le_refl c))
          ∙ mul_whole_nat k (binomial u c) h binomial_small
          ∙ ap (λ (j : ℕ). whole (pos (k * binomial u j))) (sym e)

-- c of the u tiles of one letter and the rest of the others: no more than all draws
one_term : (u rest c k : ℕ) → binomial u c * binomial rest k ≤ binomial (u + rest) (c + k)
one_term u rest c k =
    let e : (a b : ℕ) → total (a ∷ b ∷ []) ≡ a + b = λ a b. omega (arith, total_cons a (b ∷ []), total_cons b [], total_nil) in
    let h = ways_le (u ∷ rest ∷ []) (c + k) (c ∷ k ∷ []) (tallies_all 2 (c + k) (c ∷ k ∷ []) (record { letters = refl; tiles = e c k })) in
    le_trans (le_of_eq (ap (binomial u c *◌) (sym (mul-one (binomial rest k))))) (le_trans h (le_of_eq (ap (λ (x : ℕ). binomial x (c + k)) (e u rest))))

-- a factor above 0 makes no number smaller
times_more : (a b : ℕ) → 0 < b → a ≤ a * b
times_more a b h = le_trans (le_of_eq (sym (mul-one a))) (mul-le-mul_left a h)

concat_cong : {A : Type 0} (f g : ℕ → List A) (k : ℕ) → ((c : ℕ) → c < k → f c ≡ g c) → concat_map f (upto k) ≡ concat_map g (upto k)
unfolding concat_map
concat_cong f g zero h = rw upto_zero
concat_cong f g (suc k) h =
    rw (upto_suc, concat_map_append f (upto k) (k ∷ []), concat_map_append g (upto k) (k ∷ []), concat_map_one f k, concat_map_one g k)
    (ap₂ ◌++◌ (concat_cong f g k (λ c l. h c (omega arith))) (h k (omega arith)))

abbrev pub as_float : ℕ × ℕ → Float × ℕ
as_float v = (whole (pos v.0), v.1)

module _ (n : ℕ) (table : List ℕ) where
  pub met_exact : (t : ℕ) (pool : List ℕ) (rem k i : ℕ) → rem ≤ 15 → 0 < k → k * binomial (total pool) rem * 16 ≤ 2 ^ 53
      → met factor n table t pool rem (whole (pos k)) i ≡ map as_float (met product n table t pool rem k i)
  met_exact t [] zero k i few some h = met_end factor n table t (whole (pos k)) i ∙ sym (ap (map as_float) (met_end product n table t k i))
  met_exact t [] (suc rem) k i few some h = met_short factor n table t rem (whole (pos k)) i ∙ sym (ap (map as_float) (met_short product n table t rem k i))
  met_exact t (u ∷ us) rem k i few some h =
      met_cons factor n table t u us rem (whole (pos k)) i
      ∙ concat_cong _ _ (suc (min u rem)) (λ c l. go c l (met_exact (suc t) us (rem - c) (k * binomial u c) (climb n table t c i) (omega arith)) (dec_le (rem - c) (total us)))
      ∙ sym (map_concat_map as_float (λ c. met product n table (suc t) us (rem - c) (k * binomial u c) (climb n table t c i)) (upto (suc (min u rem))))
      ∙ sym (ap (map as_float) (met_cons product n table t u us rem k i))
    where
      go : (c : ℕ) → c < suc (min u rem)
          → (0 < k * binomial u c → k * binomial u c * binomial (total us) (rem - c) * 16 ≤ 2 ^ 53
          → met factor n table (suc t) us (rem - c) (whole (pos (k * binomial u c))) (climb n table t c i) ≡ map as_float (met product n table (suc t) us (rem - c) (k * binomial u c) (climb n table t c i)))
          → Dec (rem - c ≤ total us)
          → met factor n table (suc t) us (rem - c) (factor (whole (pos k)) u c) (climb n table t c i) ≡ map as_float (met product n table (suc t) us (rem - c) (k * binomial u c) (climb n table t c i))
      go c l next (no lack) =
          let h' : total us < rem - c = omega arith in
          met_lacking factor n table (suc t) us (rem - c) (factor (whole (pos k)) u c) (climb n table t c i) h'
          ∙ sym (ap (map as_float) (met_lacking product n table (suc t) us (rem - c) (k * binomial u c) (climb n table t c i) h'))
      go c l next (yes enough) =
          let b = binomial u c in
          let rest = binomial (total us) (rem - c) in
          let inside : c ≤ u = omega arith in
          let some-b : 0 < b = positive u c inside in
          let some-rest : 0 < rest = positive (total us) (rem - c) enough in
          let term : b * rest ≤ binomial (total (u ∷ us)) rem =
          le_trans (one_term u (total us) c (rem - c)) (le_of_eq (ap₂ binomial (sym (total_cons u us)) (omega arith))) in
          let all : k * b * rest * 16 ≤ 2 ^ 53 = le_trans (mul-le-mul_right 16 (le_trans (le_of_eq (mul_assoc k b rest)) (mul-le-mul_left k term))) h in
          let part : k * b * 16 ≤ 2 ^ 53 = le_trans (mul-le-mul_right 16 (times_more (k * b) rest some-rest)) all in
          let own : b * 16 ≤ 2 ^ 53 = le_trans (mul-le-mul_right 16 (le_trans (times_more b k some) (le_of_eq (mul_comm b k)))) part in
          let k-small : k ≤ 2 ^ 53 = le_trans (times_more k b some-b) (omega arith) in
          ap (λ (w : Float). met factor n table (suc t) us (rem - c) w (climb n table t c i)) (factor_exact u c (omega arith) inside own k k-small)
          ∙ next (mul-pos some some-b) all

  -- each rack that is met has a way
  pub met_ways : (t : ℕ) (pool : List ℕ) (rem k i : ℕ) → 0 < k → Every (λ v. 0 < v.0) (met product n table t pool rem k i)
  met_ways t [] zero k i some = rw (met_end product n table t k i) (every_cons some every_nil)
  met_ways t [] (suc rem) k i some = rw (met_short product n table t rem k i) every_nil
  met_ways t (u ∷ us) rem k i some =
      rw (met_cons product n table t u us rem k i)
      (every_concat_map (λ c. met product n table (suc t) us (rem - c) (k * binomial u c) (climb n table t c i))
      (every_weaken (λ c l. met_ways (suc t) us (rem - c) (k * binomial u c) (climb n table t c i) (mul-pos some (positive u c (omega arith)))) (upto_below (suc (min u rem)))))

-- the ranks do not depend on the ways
abbrev pub rank : {W : Type 0} → W × ℕ → ℕ
rank v = v.1

module _ {A B : Type 0} (by : A → ℕ → ℕ → A) (by' : B → ℕ → ℕ → B) (n : ℕ) (table : List ℕ) where
  pub met_ranks : (t : ℕ) (pool : List ℕ) (rem : ℕ) (a : A) (b : B) (i : ℕ) → map rank (met by n table t pool rem a i) ≡ map rank (met by' n table t pool rem b i)
  met_ranks t [] zero a b i = ap (map rank) (met_end by n table t a i) ∙ sym (ap (map rank) (met_end by' n table t b i))
  met_ranks t [] (suc rem) a b i = ap (map rank) (met_short by n table t rem a i) ∙ sym (ap (map rank) (met_short by' n table t rem b i))
  met_ranks t (u ∷ us) rem a b i =
      ap (map rank) (met_cons by n table t u us rem a i)
      ∙ map_concat_map rank _ (upto (suc (min u rem)))
      ∙ concat_map_cong (λ c. met_ranks (suc t) us (rem - c) (by a u c) (by' b u c) (climb n table t c i)) (upto (suc (min u rem)))
      ∙ sym (map_concat_map rank _ (upto (suc (min u rem))))
      ∙ sym (ap (map rank) (met_cons by' n table t u us rem b i))

-- ---- the sums
module _ (full : List ℤ) where
  -- the largest size of a best
  pub gains_most : (vs : List (Float × ℕ)) (a : Totals) → (gains full vs a).most ≡ max a.most (largest (map rank vs) (λ i. nat_abs (at_ℤ full i)))
  unfolding gains gain
  gains_most [] a = omega arith
  gains_most (v ∷ vs) a = gains_most vs (gain full v a) ∙ omega arith

  -- the draws and the sum of their bests, as far as the racks met so far go
  abbrev pub ways_of : List (ℕ × ℕ) → ℕ
  ways_of vs = sum_over vs (λ v. v.0 * 1)

  abbrev pub bests_of : List (ℕ × ℕ) → ℤ
  bests_of vs = sum_over_ℤ vs (λ v. pos v.0 *ℤ at_ℤ full v.1)

  pub bests_spread : (vs : List (ℕ × ℕ)) → Every (λ v. mag (at_ℤ full v.1) < 2 ^ 31) vs → Spread (2 ^ 31) (ways_of vs) (bests_of vs)
  bests_spread [] every_nil = spread_zero (2 ^ 31)
  bests_spread (v ∷ vs) (every_cons p e) =
      spread_add (2 ^ 31) (v.0 * 1) (ways_of vs) (pos v.0 *ℤ at_ℤ full v.1) (bests_of vs) (rw (mul-one v.0) (spread_mul (2 ^ 31) v.0 (at_ℤ full v.1) p)) (bests_spread vs e)

  module _ (M : ℕ) (some : 0 < M) where
    -- a best of a drawable rack: an i32, and no larger than M
    pub record Sized (i : ℕ) : Type 0 where
      pub fits : mag (at_ℤ full i) < 2 ^ 31
      pub small : nat_abs (at_ℤ full i) ≤ M

    pub gains_exact : (vs : List (ℕ × ℕ)) (a : Totals) (z : ℤ) (d : ℕ) → Every (λ v. Sized v.1) vs → nat_abs z ≤ d * M → (d + ways_of vs) * M ≤ 2 ^ 53 → a.num ≡ whole z → a.den ≡ whole (pos d)
        → ((gains full (map as_float vs) a).num ≡ whole (z +ℤ bests_of vs)) × ((gains full (map as_float vs) a).den ≡ whole (pos (d + ways_of vs)))
    unfolding gains gain
    gains_exact [] a z d every_nil b l p q = (p ∙ ap whole (sym (+ℤ_idr z)), q ∙ ap (λ (k : ℕ). whole (pos k)) (sym (add-zero d)))
    gains_exact (v ∷ vs) a z d (every_cons s e) b l p q =
        let w = v.0 in
        let x = at_ℤ full v.1 in
        let one : v.0 * 1 ≡ v.0 = mul-one v.0 in
        let both : (d + w) * M ≡ d * M + w * M = add-mul d w M in
        let less : (d + w) * M ≤ 2 ^ 53 = le_trans (mul-le-mul_right M (omega arith)) l in
        let bound : nat_abs (pos w *ℤ x) ≤ w * M = le_trans (le_of_eq (nat_abs_mul (pos w) x)) (mul-le-mul_left w s.small) in
        let w-small : w ≤ 2 ^ 53 = le_trans (times_more w M some) (omega arith) in
        let d_small : d ≤ 2 ^ 53 = le_trans (times_more d M some) (omega arith) in
        let num : add binary64 a.num (mul binary64 (whole (pos w)) (whole x)) ≡ whole (z +ℤ pos w *ℤ x) =
        ap (λ (f : Float). add binary64 f (mul binary64 (whole (pos w)) (whole x))) p ∙ add_mul_whole z (pos w) x (omega arith) w-small (small_i32 x s.fits) (omega arith) in
        let den : add binary64 a.den (whole (pos w)) ≡ whole (pos (d + w)) = ap (λ (f : Float). add binary64 f (whole (pos w))) q ∙ add_whole (pos d) (pos w) d_small w-small in
        let sum = d + w + ways_of vs in
        let same : sum ≡ d + ways_of (v ∷ vs) = omega arith in
        let rest = gains_exact vs (gain full (as_float v) a) (z +ℤ pos w *ℤ x) (d + w) e (omega (arith, nat_abs_add z (pos w *ℤ x))) (rw same l) num den in
        (rest.0 ∙ ap whole (+ℤ_assoc z (pos w *ℤ x) (bests_of vs)), rest.1 ∙ ap (λ (k : ℕ). whole (pos k)) same)

-- The letter-by-letter fold: what its last pass leaves, and bounds of every partial sum. Assumes nothing.
use Rattle.std.specs.Prelude.{◌≡◌, refl, Bool, ◌&&◌, length, replicate, leb, ℤ, pos, ◌*ℤ◌, nat_abs}
use Rattle.std.proofs.Math.Path.{sym}
use Rattle.std.proofs.Common.{ap, ◌∙◌, suc-ne-zero, arith}
use Rattle.std.proofs.Math.Bool.{true, false, cond}
use mathlib.Core.List.{List, [], ◌∷◌}
use Prim.Native.Nat.{ℕ, zero, suc, ◌*◌, ◌≤◌, ◌<◌}
use Rattle.std.proofs.Math.Nat.{suc_inj}
use Rattle.lattice.specs.Tally.{total, tallies}
use Rattle.laws.specs.Sums.{Additive, naturals, integers, sum_in, sum_cong, sum_le, sum_bound}
use Rattle.laws.specs.Every.{every, every_weaken}
use Rattle.binomials.specs.Binomial.{binomial}
use Rattle.hands.specs.Hands.{cond_le, ways, holds, hand_count, hand_sum, ways_bound}
use Rattle.hands.proofs.Hands.{ways_total, hand_count_cond, hand_sum_cond}
use Rattle.hands.specs.Fold.{meets, partial_in, partial}

-- with every letter taken the test is that the rack holds m
pub meets_holds : (n : ℕ) (m t : List ℕ) → length m ≡ n → meets (replicate n true) m t ≡ holds t m
meets_holds zero [] t e = refl
meets_holds zero (x ∷ m) t e = absurd (suc-ne-zero (length m) e)
meets_holds (suc n) [] t e = absurd (suc-ne-zero n (sym e))
meets_holds (suc n) (x ∷ m) [] e = refl
meets_holds (suc n) (x ∷ m) (c ∷ t) e = ap (λ b. leb x c && b) (meets_holds n m t (suc_inj e))

module _ (𝓜 : Additive) where
  open 𝓜 use {Carrier, none}

  module _ (n r : ℕ) (g : List ℕ → Carrier) where
    -- every letter taken: the sum over the racks that hold m
    pub partial_end : (m : List ℕ) → length m ≡ n → partial_in 𝓜 n r g (replicate n true) m ≡ sum_in 𝓜 (tallies n r) (λ t. cond (holds t m) (g t) none)
    partial_end m e = sum_cong 𝓜 (tallies n r) (λ t. ap (λ b. cond b (g t) none) (meets_holds n m t e))

-- ---- what the last pass leaves is a leave's count and sum
pub partial_hand_sum : (pool : List ℕ) (r : ℕ) (best : List ℕ → ℤ) (leave : List ℕ) → length leave ≡ length pool
    → partial (length pool) r (λ t. pos (ways pool t) *ℤ best t) (replicate (length pool) true) leave ≡ hand_sum pool r best leave
partial_hand_sum pool r best leave e = partial_end integers (length pool) r _ leave e ∙ sym (hand_sum_cond pool r best leave)

pub partial_hand_count : (pool : List ℕ) (r : ℕ) (leave : List ℕ) → length leave ≡ length pool
    → partial_in naturals (length pool) r (ways pool) (replicate (length pool) true) leave ≡ hand_count pool r leave
partial_hand_count pool r leave e = partial_end naturals (length pool) r _ leave e ∙ sym (hand_count_cond pool r leave)

-- ---- bounds of every partial sum, whatever is taken
pub partial_count_le : (pool : List ℕ) (r : ℕ) (taken : List Bool) (m : List ℕ) → partial_in naturals (length pool) r (ways pool) taken m ≤ binomial (total pool) r
partial_count_le pool r taken m = rw (← (ways_total pool r)) (sum_le (every (λ t. cond_le (meets taken m t) (ways pool t)) (tallies (length pool) r)))

pub partial_sum_le : (pool : List ℕ) (r : ℕ) (best : List ℕ → ℤ) (M : ℕ) → ((t : List ℕ) → length t ≡ length pool → total t ≡ r → 0 < ways pool t → nat_abs (best t) ≤ M)
    → (taken : List Bool) (m : List ℕ) → nat_abs (partial (length pool) r (λ t. pos (ways pool t) *ℤ best t) taken m) ≤ binomial (total pool) r * M
partial_sum_le pool r best M within taken m =
    rw (← (ways_total pool r)) (sum_bound _ (ways pool) M (every_weaken (λ t h. one (meets taken m t) (pos (ways pool t) *ℤ best t) (ways pool t * M) h) (ways_bound pool r best M within)))
  where
    one : (b : Bool) (z : ℤ) (k : ℕ) → nat_abs z ≤ k → nat_abs (cond b z (pos 0)) ≤ k
    one true z k h = h
    one false z k h = omega arith

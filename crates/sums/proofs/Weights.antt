-- The running binomial of a pool's weight, which stops above 2 ^ 53. Assumes nothing.
use mathlib.Core.Path.{◌≡◌, sym, ap₂, ◌∙◌}
use Prim.Native.Nat.{ℕ, ◌+◌, ◌-◌, ◌*◌, ◌/◌, ◌≤◌, ◌<◌}
use native.Mathlib.Nat.{le_trans, lt_of_not-le, mul-le-mul, div-eq_of_eq-mul_left}
use native.Mathlib.Numerals.{add-one}
use native.Mathlib.Decide.{dec_le}
use native.Mathlib.Omega.{arith}
use Rattle.binomials.specs.Binomial.{binomial, binomial_above, absorb}
use Rattle.sums.specs.Ascend.{ascend, few_small}

-- more asked for than there is
pub weight_none : (n k : ℕ) → n < k → (binomial n k ≤ 9007199254740992) × (0 ≡ binomial n k)
weight_none n k h = let e = binomial_above n k h in (omega (arith, e), sym e)

-- where it is above the limit once, it stays above
pub weight_over : (n : ℕ) {j k : ℕ} → j ≤ k → k ≤ 15 → 9007199254740992 < binomial n j → binomial n k ≤ 9007199254740992 → ⊥
weight_over n {j} {k} h l g f = by (dec_le n 30)
  where
    by : Dec (n ≤ 30) → ⊥
    by (yes m) = omega (arith, few_small n j m)
    by (no m) =
        let m' : 30 ≤ n = omega arith in
        omega (arith, le_trans g (ascend n h l m'))

module _ (n : ℕ) {j m b : ℕ} (few : j + 1 ≤ 15) (inside : j < n) (m-is : m ≡ n - j) (b-is : b ≡ binomial n j) where
  next : binomial n (j + 1) * (j + 1) ≡ b * m
  next = rw add-one (absorb n j ∙ sym (ap₂ ◌*◌ b-is m-is))

  some_left : 0 < m
  some_left = omega arith

  pub turn_is : b * m / (j + 1) ≡ binomial n (j + 1)
  turn_is = div-eq_of_eq-mul_left (omega arith) (sym next)

  -- a product that does not fit is that of a binomial above the limit
  pub product_over : (b * m < 18446744073709551616 → ⊥) → 9007199254740992 < binomial n (j + 1)
  product_over h = by (dec_le (binomial n (j + 1)) 9007199254740992)
    where
      by : Dec (binomial n (j + 1) ≤ 9007199254740992) → 9007199254740992 < binomial n (j + 1)
      by (no g) = lt_of_not-le g
      by (yes g) = absurd (h (omega (arith, mul-le-mul g few, next)))

-- Binomial coefficients by Pascal's rule (NIST DLMF 26.3), and the laws that ranks of multisets use. Assumes nothing.
use Rattle.std.specs.Prelude.{◌≡◌, ℕ, zero, suc, ◌+◌, ◌-◌, ◌*◌, ◌<◌, ◌≤◌, Bool, true, false, not, T, List, [], ◌∷◌, nat_lt, slice_index_or, refl}
use Rattle.std.proofs.Common.{sym, ap, ap₂, ◌∙◌, ltb→lt, nltb→le, zero-mul, mul-zero, add-mul, mul-add, zero-add, suc-add, add-zero, add-suc, not-suc-le-zero, le_trans, le_of_eq, add-sub_of_le, arith}
use Rattle.std.proofs.Math.Nat.{zero-sub, suc-sub-suc}
use Rattle.laws.specs.Lists.{upto}
use Rattle.laws.specs.Sums.{naturals, sum_over, sum_upto_zero, sum_upto_suc}

unfoldable pub binomial : ℕ → ℕ → ℕ
binomial n zero = 1
binomial zero (suc k) = zero
binomial (suc n) (suc k) = binomial n k + binomial n (suc k)

-- the clauses, as equations
pub binomial_zero : (n : ℕ) → binomial n zero ≡ 1
unfolding binomial
binomial_zero n = refl

pub binomial_zero_suc : (k : ℕ) → binomial zero (suc k) ≡ zero
unfolding binomial
binomial_zero_suc k = refl

pub pascal : (n k : ℕ) → binomial (suc n) (suc k) ≡ binomial n k + binomial n (suc k)
unfolding binomial
pascal n k = refl

-- there is no way to choose more than there are
pub binomial_above : (n k : ℕ) → n < k → binomial n k ≡ zero
binomial_above n zero h = absurd (not-suc-le-zero h)
binomial_above zero (suc k) h = binomial_zero_suc k
binomial_above (suc n) (suc k) h = rw (pascal, binomial_above n k (omega arith), binomial_above n (suc k) (omega arith))

pub binomial_self : (n : ℕ) → binomial n n ≡ 1
binomial_self zero = binomial_zero zero
binomial_self (suc n) = rw (pascal, binomial_self n, binomial_above n (suc n) (omega arith))

-- Pascal's rule as ranks use it: of p + 2 letters and k + 1 tiles, those with none of the first letter, and the others
pub pascal_sum : (k p : ℕ) → binomial (suc k + suc p) (suc p) ≡ binomial (suc k + p) p + binomial (k + suc p) (suc p)
pascal_sum k p = simp (suc-add, add-suc, pascal)

-- one of n
pub binomial_one : (n : ℕ) → binomial n 1 ≡ n
binomial_one zero = binomial_zero_suc zero
binomial_one (suc n) = rw (pascal, binomial_zero, binomial_one n) (omega arith)

pub symmetric : (a b : ℕ) → binomial (a + b) a ≡ binomial (a + b) b
symmetric zero b = simp (zero-add, binomial_zero, binomial_self)
symmetric (suc a) zero = simp (add-zero, binomial_zero, binomial_self)
symmetric (suc a) (suc b) =
    let x : binomial (a + suc b) a ≡ binomial (a + suc b) (suc b) = symmetric a (suc b) in
    let y : binomial (suc a + b) (suc a) ≡ binomial (suc a + b) b = symmetric (suc a) b in
    simp (suc-add, pascal) (omega (arith, simp (suc-add, ← add-suc) at y))

-- more to choose from, more ways
pub binomial_le_suc : (n k : ℕ) → binomial n k ≤ binomial (suc n) k
binomial_le_suc n zero = simp binomial_zero (omega arith)
binomial_le_suc n (suc k) = rw pascal (omega arith)

pub binomial_mono : (k n d : ℕ) → binomial n k ≤ binomial (n + d) k
binomial_mono k n zero = rw add-zero (omega arith)
binomial_mono k n (suc d) = rw add-suc (le_trans (binomial_mono k n d) (binomial_le_suc (n + d) k))

pub monotone : (k : ℕ) {m n : ℕ} → m ≤ n → binomial m k ≤ binomial n k
monotone k {m} {n} h = rw (← add-sub_of_le h) (binomial_mono k m (n - m))

pub positive : (n k : ℕ) → k ≤ n → 0 < binomial n k
positive n k h = le_trans (le_of_eq (sym (binomial_self k))) (monotone k h)

-- and so for the table of C(p + k, k), along a row and down a column
pub table_monotone : {p q j k : ℕ} → p ≤ q → j ≤ k → binomial (p + j) j ≤ binomial (q + k) k
table_monotone {p} {q} {j} {k} h l =
    let across : binomial (q + j) q ≤ binomial (q + k) q = monotone q (omega arith) in
    let down : binomial (p + j) j ≤ binomial (q + j) j = monotone j (omega arith) in
    omega (arith, symmetric q j, symmetric q k)

-- a table of P + 1 rows and K + 1 columns that begins each with 1 and meets Pascal's rule holds C(p + k, k) at row p and column k
pub by_rule : (T : ℕ → ℕ → ℕ) (P K : ℕ) → ((p : ℕ) → p ≤ P → T p zero ≡ 1) → ((k : ℕ) → k ≤ K → T zero k ≡ 1) → ((p k : ℕ) → p < P → k < K → T (suc p) (suc k) ≡ T p (suc k) + T (suc p) k)
    → (p k : ℕ) → p ≤ P → k ≤ K → T p k ≡ binomial (p + k) k
by_rule T P K first top rule p zero h l = rw (first p h, binomial_zero)
by_rule T P K first top rule zero (suc k) h l = rw (top (suc k) l, zero-add, binomial_self)
by_rule T P K first top rule (suc p) (suc k) h l =
    let above = by_rule T P K first top rule p (suc k) (omega arith) l in
    let left = by_rule T P K first top rule (suc p) k h (omega arith) in
    rw (rule p k h l, pascal_sum p k) (omega arith)

-- the hockey-stick sum, over c from 0 to k
pub hockey_stick : (k p : ℕ) → sum_over (upto (suc k)) (λ c. binomial (c + p) p) ≡ binomial (k + suc p) (suc p)
hockey_stick zero p = sum_upto_suc naturals zero _ ∙ ap (λ (s : ℕ). s + binomial (zero + p) p) (sum_upto_zero naturals _) ∙ simp (zero-add, binomial_self)
hockey_stick (suc k) p = sum_upto_suc naturals (suc k) _ ∙ rw (hockey_stick k p, pascal_sum) (omega arith)

-- ---- C(n, k + 1) * (k + 1) = C(n, k) * (n - k), by which a running binomial goes on

-- x is C(m, j + 1), which is 0 where m is at most j
absorb_step : (m j x : ℕ) → (m < suc j → x ≡ 0) → x * suc (suc j) + x * (m - suc j) ≡ x * suc j + x * (m - j)
absorb_step m j x h = go (nat_lt m (suc j)) (ltb→lt m (suc j)) (nltb→le m (suc j))
  where
    zeros : (a b c d : ℕ) → 0 * a + 0 * b ≡ 0 * c + 0 * d
    zeros a b c d = simp zero-mul

    go : (t : Bool) → (T t → m < suc j) → (T (not t) → suc j ≤ m) → x * suc (suc j) + x * (m - suc j) ≡ x * suc j + x * (m - j)
    go true l g = rw (h (l tt)) (zeros (suc (suc j)) (m - suc j) (suc j) (m - j))
    go false l g =
        let e : suc j ≤ m = g tt in
        sym (mul-add x (suc (suc j)) (m - suc j)) ∙ ap (λ (y : ℕ). x * y) (omega arith) ∙ mul-add x (suc j) (m - j)

pub absorb : (n k : ℕ) → binomial n (suc k) * suc k ≡ binomial n k * (n - k)
unfolding binomial
absorb zero k = zero-mul (suc k) ∙ sym (ap (λ (x : ℕ). binomial 0 k * x) (zero-sub k) ∙ mul-zero (binomial 0 k))
absorb (suc m) zero = omega (arith, absorb m zero)
absorb (suc m) (suc j) =
    add-mul (binomial m (suc j)) (binomial m (suc (suc j))) (suc (suc j))
    ∙ ap (λ (x : ℕ). binomial m (suc j) * suc (suc j) + x) (absorb m (suc j))
    ∙ absorb_step m j (binomial m (suc j)) (binomial_above m (suc j))
    ∙ ap (λ (x : ℕ). x + binomial m (suc j) * (m - j)) (absorb m j)
    ∙ sym (add-mul (binomial m j) (binomial m (suc j)) (m - j))
    ∙ ap (λ (x : ℕ). (binomial m j + binomial m (suc j)) * x) (sym (suc-sub-suc m j))

-- ---- to compute one: Pascal's triangle row by row, about n * n / 2 additions

-- the row below xs, where p stands before xs's first
unfoldable pub below : ℕ → List ℕ → List ℕ
below p [] = p ∷ []
below p (x ∷ xs) = (p + x) ∷ below x xs

unfoldable pub row : ℕ → List ℕ
row zero = 1 ∷ []
row (suc n) = below zero (row n)

below_zero : (p : ℕ) (xs : List ℕ) → slice_index_or (below p xs) zero zero ≡ p + slice_index_or xs zero zero
unfolding below
below_zero p [] = sym (add-zero p)
below_zero p (x ∷ xs) = refl

below_suc : (p k : ℕ) (xs : List ℕ) → slice_index_or (below p xs) (suc k) zero ≡ slice_index_or xs k zero + slice_index_or xs (suc k) zero
unfolding below
below_suc p k [] = refl
below_suc p zero (x ∷ xs) = below_zero x xs
below_suc p (suc k) (x ∷ xs) = below_suc x k xs

-- A closed instance holds by computation: under `unfolding row below`, `by_row 71 64 : binomial 71 64 ≡ 1329890705`
pub by_row : (n k : ℕ) → binomial n k ≡ slice_index_or (row n) k zero
unfolding row
by_row zero zero = binomial_zero zero
by_row zero (suc k) = binomial_zero_suc k
by_row (suc n) zero = binomial_zero (suc n) ∙ sym (binomial_zero n) ∙ by_row n zero ∙ sym (below_zero zero (row n) ∙ zero-add _)
by_row (suc n) (suc k) = pascal n k ∙ ap₂ ◌+◌ (by_row n k) (by_row n (suc k)) ∙ sym (below_suc zero k (row n))

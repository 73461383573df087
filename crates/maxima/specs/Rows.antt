-- The subset maximum in one pass over the rows: a row raises only entries above its index, so the entry that it reads is final, and no entry is above one with a tile more. Assumes nothing.
use Rattle.std.specs.Prelude.{ℕ, zero, suc, ◌+◌, ◌*◌, ◌≤◌, ◌<◌, List, ◌≡◌, ℤ, length, ◌≤ℤ◌}
use Rattle.std.proofs.Common.{◌∙◌, le_refl, mul-le-mul_right, suc-mul, arith}
use Rattle.std.specs.Int.Signed.{≤ℤ_refl}
use Rattle.std.proofs.Math.Decide.{ℕ_discrete}
use Rattle.laws.specs.Integer.{at_ℤ, ≤ℤ-trans}
use Rattle.lattice.specs.Tables.{up, Rises}
use Rattle.lattice.specs.Tally.{lattice, start, rank_of}
use Rattle.lattice.specs.Leaves.{AddTable, table_rises}
use Rattle.maxima.specs.Maxima.{SubsetMax, lift_row, lift_rows}
use Rattle.maxima.specs.Passes.{length_lifts, lifts_grow, lifts_keep, lifts_order}
use Rattle.maxima.specs.Subsets.{Parts, climbs, lifts_parts, own_parts, greatest_part}

-- what row i asks: it is within the table, and its entries are above i and below len
pub record Row (n len : ℕ) (add : List ℕ) (i : ℕ) : Type 0 where
  pub rows : i * n + n ≤ length add
  pub inside : i < len
  pub above : (t : ℕ) → t < n → i < up n add t i
  pub below : (t : ℕ) → t < n → up n add t i < len

pub row_of : {n lo len : ℕ} {add : List ℕ} (i : ℕ) → Rises n lo len add → i < lo → Row n len add i
row_of {n} i rises h =
    record {
      rows = omega (arith, rises.rows, simp suc-mul at (mul-le-mul_right n h));
      inside = omega (arith, rises.most);
      above = λ t k. rises.above i t h k;
      below = λ t k. rises.below i t h k;
    }

-- ---- one row

module _ (n i : ℕ) (add : List ℕ) (d : List ℤ) (row : Row n (length d) add i) where
  row_grows : (j : ℕ) → at_ℤ d j ≤ℤ at_ℤ (lift_row n add i n d) j
  row_grows = lifts_grow (λ t. i) (λ t. up n add t i) n d row.below n (le_refl n)

  -- no entry at or below i changes: the entry that the row reads stays
  pub row_keeps : (k : ℕ) → k ≤ n → (j : ℕ) → j ≤ i → at_ℤ (lift_row n add i k d) j ≡ at_ℤ d j
  row_keeps k h j l = lifts_keep (λ t. i) (λ t. up n add t i) n d row.below k h j (λ t u. omega (arith, row.above t u))

  row_orders : (t : ℕ) → t < n → at_ℤ (lift_row n add i n d) i ≤ℤ at_ℤ (lift_row n add i n d) (up n add t i)
  row_orders = lifts_order (λ t. i) (λ t. up n add t i) n d row.below (λ t u l. row.above u) n (le_refl n)

-- ---- every row

module _ (n lo len : ℕ) (add : List ℕ) (d : List ℤ) (rises : Rises n lo len add) (size : length d ≡ len) where
  length_rows : (k : ℕ) → length (lift_rows n k add d) ≡ len
  length_rows zero = size
  length_rows (suc k) = length_lifts (λ t. k) (λ t. up n add t k) n (lift_rows n k add d) ∙ length_rows k

  row_at : (k : ℕ) → k < lo → Row n (length (lift_rows n k add d)) add k
  row_at k h = rw (length_rows k) (row_of k rises h)

  rows_grow : (k : ℕ) → k ≤ lo → (j : ℕ) → at_ℤ d j ≤ℤ at_ℤ (lift_rows n k add d) j
  rows_grow zero h j = ≤ℤ_refl (at_ℤ d j)
  rows_grow (suc k) h j = ≤ℤ-trans (rows_grow k (omega arith) j) (row_grows n k add (lift_rows n k add d) (row_at k h) j)

  rows_order : (k : ℕ) → k ≤ lo → (i t : ℕ) → i < k → t < n → at_ℤ (lift_rows n k add d) i ≤ℤ at_ℤ (lift_rows n k add d) (up n add t i)
  rows_order zero h i t l u = absurd (omega arith)
  rows_order (suc k) h i t l u = go (rows_order k (omega arith) i t) (ℕ_discrete i k)
    where
      x : List ℤ
      x = lift_rows n k add d

      go : (i < k → t < n → at_ℤ x i ≤ℤ at_ℤ x (up n add t i)) → Dec (i ≡ k) → at_ℤ (lift_row n add k n x) i ≤ℤ at_ℤ (lift_row n add k n x) (up n add t i)
      go ih (yes e) = rw e (row_orders n k add x (row_at k h) t u)
      go ih (no e) = rw (row_keeps n k add x (row_at k h) n (le_refl n) i (omega arith)) (≤ℤ-trans (ih (omega arith) u) (row_grows n k add x (row_at k h) (up n add t i)))

module _ (n r : ℕ) (add : List ℕ) (table : AddTable n r add) (d : List ℤ) (size : length d ≡ length (lattice n r)) where
  rises : Rises n (start n r) (length (lattice n r)) add
  rises = table_rises n r add table

  rows_parts : (k : ℕ) → k ≤ start n r → Parts n r d (lift_rows n k add d)
  rows_parts zero h = own_parts n r d
  rows_parts (suc k) h =
      lifts_parts n r add table d size (λ t. k) (λ t. t) n (lift_rows n k add d) (λ t u. (h, u)) (length_rows n (start n r) (length (lattice n r)) add d rises size k) (rows_parts k (omega arith))

  -- row by row
  pub rows_max : SubsetMax n r d (lift_rows n (start n r) add d)
  rows_max =
      let all = le_refl (start n r) in
      greatest_part n r d (lift_rows n (start n r) add d) (rows_parts (start n r) all)
      (λ x y g a. ≤ℤ-trans (rows_grow n (start n r) (length (lattice n r)) add d rises size (start n r) all (rank_of n x))
      (climbs n r add table (lift_rows n (start n r) add d) (rows_order n (start n r) (length (lattice n r)) add d rises size (start n r) all) g (le_refl n) a))

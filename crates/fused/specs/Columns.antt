-- Where a table of ranks has those of one letter: from a place on, and so many entries apart. Assumes nothing.
use Rattle.std.specs.Prelude.{ℕ, ◌+◌, ◌*◌, ◌<◌, ◌≡◌, List, length, slice_index}
use Rattle.lattice.specs.Tables.{up}

-- each index below lo has its place in the table, and there its rank with one tile more of letter t, which is below len
pub record IsColumn (n lo len : ℕ) (add : List ℕ) (t : ℕ) (table : List ℕ) (from step : ℕ) : Type 0 where
  pub inside : (i : ℕ) → i < lo → from + i * step < length table
  pub same : (i : ℕ) → i < lo → slice_index table (from + i * step) ≡ up n add t i
  pub below : (i : ℕ) → i < lo → up n add t i < len

-- a table letter by letter has a part of so many rows for each letter, with the ranks of the table by index
pub record ByLetter (n lo : ℕ) (add table : List ℕ) : Type 0 where
  pub rows : length table ≡ n * lo
  pub same : (i t : ℕ) → i < lo → t < n → slice_index table (t * lo + i) ≡ up n add t i

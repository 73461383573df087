-- The tables of ranks that a call takes: what a judge of them answers, for every input. Assumes nothing.
use Rattle.std.specs.Prelude.{◌≡◌, ℕ, ◌*◌, ◌⊎◌, List, length}
use Rattle.lattice.specs.Tally.{start}
use Rattle.lattice.specs.TableCalls.{Tables}

-- the lengths of the two tables: a row of n ranks for each leave, and as many letter by letter, or none
pub record TableLengths (n r add letters : ℕ) : Type 0 where
  pub in_add : add ≡ start n r * n
  pub in_letters : (letters ≡ 0) ⊎ (letters ≡ start n r * n)

-- the number of the refusal of two tables, where the sizes are served: 0 where they are accepted
pub data RanksNumber (n r : ℕ) (add letters : List ℕ) : ℕ → Type 0 where
  accepted : TableLengths n r (length add) (length letters) → Tables n r add letters → RanksNumber n r add letters 0
  lengths : (TableLengths n r (length add) (length letters) → ⊥) → RanksNumber n r add letters 2
  rule : TableLengths n r (length add) (length letters) → (Tables n r add letters → ⊥) → RanksNumber n r add letters 6

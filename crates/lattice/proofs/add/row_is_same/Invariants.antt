-- `lattice::add::row_is_same` meets its contract. The invariant: `wrong` is 0 exactly where the row is the same for the letters below t. Assumes nothing.
use Rattle.std.proofs.Common.{◌≡◌, ℕ, ◌+◌, ◌*◌, ◌<◌, eqb, get_or}
use Rattle.lattice.specs.AddRows.{Decides}
use Rattle.lattice.proofs.add.row_is_same.Given as goal

abbrev pub invariant-loop-t : goal.invariant-loop-t
invariant-loop-t l = Decides (eqb l.wrong 0) ((j : ℕ) → j < l.t → get_or l.by_letter (j * l.rows + l.idx) 0 ≡ get_or l.row j 0)

-- `lattice::triangle::fill_rows` meets its contract. The loop's invariant: the first n + 1 rows are filled. Assumes nothing.
use Rattle.std.proofs.Common.{◌≡◌, ◌+◌, length}
use Rattle.lattice.specs.Triangle.{Rows, row_start}
use Rattle.lattice.proofs.triangle.fill_rows.Given as goal

abbrev pub invariant-loop-n : goal.invariant-loop-n
invariant-loop-n l = record { at : l.at ≡ row_start l.n; size : length l.out ≡ row_start l.rows; rows : Rows (l.n + 1) l.out }

-- `lattice::add::by_letter_is_right` meets its contract. The invariant is that of `fill_table`, where the row before stands in `row`; a row that is not the same refutes the table. Assumes nothing.
use Rattle.std.proofs.Common.{◌≡◌, ◌+◌, ◌*◌, take, get_or}
use Rattle.lattice.specs.AddRows.{RowBefore, RowsRight}
use Rattle.lattice.specs.AddRow.{row_top}
use Rattle.lattice.proofs.add.by_letter_is_right.Given as goal

abbrev pub invariant-loop-rank : goal.invariant-loop-rank
invariant-loop-rank l = record {
  letters : l.walk.sizes.n ≡ l.sizes.n;
  tiles : l.walk.sizes.r ≡ l.sizes.r;
  at : l.walk.rank ≡ l.rank;
  rows : RowsRight l.sizes.n l.sizes.r l.rank (λ j t. get_or l.by_letter (t * l.sizes.leaves + j) 0);
  before : RowBefore (row_top l.walk.sizes.n l.walk.rank (take l.walk.sizes.n l.walk.tails)) (take l.walk.sizes.n l.walk.tails) l.walk.kept 0 l.row;
}

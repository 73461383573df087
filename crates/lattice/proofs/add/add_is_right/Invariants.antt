-- `lattice::add::add_is_right` meets its contract. The invariant is that of `fill_table`; a row that is not right refutes the table. Assumes nothing.
use Rattle.std.proofs.Common.{◌≡◌, ◌+◌, ◌≤◌, length, take}
use Rattle.lattice.specs.Tables.{up}
use Rattle.lattice.specs.AddRows.{RowBefore, RowsRight}
use Rattle.lattice.specs.AddRow.{row_top}
use Rattle.lattice.proofs.add.add_is_right.Given as goal

abbrev pub invariant-loop-rank : goal.invariant-loop-rank
invariant-loop-rank l = record {
  letters : l.walk.sizes.n ≡ l.sizes.n;
  tiles : l.walk.sizes.r ≡ l.sizes.r;
  at : l.walk.rank ≡ l.rank;
  rows : RowsRight l.sizes.n l.sizes.r l.rank (λ j t. up l.sizes.n l.add t j);
  before : RowBefore (row_top l.walk.sizes.n l.walk.rank (take l.walk.sizes.n l.walk.tails)) (take l.walk.sizes.n l.walk.tails) l.walk.kept l.prior l.add;
  inside : l.prior + l.walk.kept ≤ length l.add;
}

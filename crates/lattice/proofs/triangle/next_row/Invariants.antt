-- `lattice::triangle::next_row` meets its contract. The loop's invariant is `Making`: k entries of the next row are made. Assumes nothing.
use Rattle.lattice.proofs.Rows.{Making}
use Rattle.lattice.proofs.triangle.next_row.Given as goal

abbrev pub invariant-loop-k : goal.invariant-loop-k
invariant-loop-k l = Making l.n l.at l.initial.out l.out l.k l.left

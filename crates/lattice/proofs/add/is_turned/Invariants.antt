-- `lattice::add::is_turned` meets its contract. The invariant: the rows below idx are the same. Assumes nothing.
use Rattle.lattice.proofs.AddLetters.{RowsSame}
use Rattle.lattice.proofs.add.is_turned.Given as goal

abbrev pub invariant-loop-idx : goal.invariant-loop-idx
invariant-loop-idx l = RowsSame l.sizes.n l.sizes.leaves l.idx l.add l.by_letter

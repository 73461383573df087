-- `lattice::add::turn_table` meets its contract. The invariant: the rows below idx are copied. Assumes nothing.
use Rattle.std.proofs.Common.{◌≡◌, length}
use Rattle.lattice.proofs.AddLetters.{RowsSame}
use Rattle.lattice.proofs.add.turn_table.Given as goal

abbrev pub invariant-loop-idx : goal.invariant-loop-idx
invariant-loop-idx l = record { size : length l.by_letter ≡ length l.initial.by_letter; same : RowsSame l.n l.rows l.idx l.add l.by_letter }

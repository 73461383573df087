-- `table_sums::racks::fill_values` meets its contract. The loop's invariant: the first j racks are done. Assumes nothing.
use Rattle.table_sums.specs.Racks.{Valued}
use Rattle.table_sums.proofs.racks.fill_values.Given as goal

abbrev pub invariant-loop-j : goal.invariant-loop-j
invariant-loop-j l = Valued 0 l.best l.ways l.j l.initial.sum-items l.sum-items

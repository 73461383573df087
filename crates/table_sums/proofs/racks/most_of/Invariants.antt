-- `table_sums::racks::most_of` meets its contract. The loop's invariant: the largest of the racks so far. Assumes nothing.
use mathlib.Core.Path.{◌≡◌}
use Rattle.table_sums.specs.Racks.{most_from}
use Rattle.table_sums.proofs.racks.most_of.Given as goal

abbrev pub invariant-loop-j : goal.invariant-loop-j
invariant-loop-j l = l.most ≡ most_from l.lo l.best l.ways l.j

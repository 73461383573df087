-- `table_sums::passes::gain_run` meets its contract. The loop's invariant: the entries of the turns so far have gained. Assumes nothing.
use Prim.Native.Nat.{◌≤◌}
use Rattle.table_sums.specs.Gain.{Lifted}
use Rattle.table_sums.proofs.passes.gain_run.Given as goal

abbrev pub invariant-loop-j : goal.invariant-loop-j
invariant-loop-j l = (l.j ≤ l.size) × Lifted l.w l.v l.j l.initial.xs l.xs

-- `sums::spread::add_run` meets its contract. The loop's invariant: the numbers so far are added. Assumes nothing.
use Prim.Native.Nat.{◌≤◌}
use mathlib.Core.Path.{◌≡◌}
use lib.ListN.{length}
use Rattle.sums.specs.Spread.{add_each, run}
use Rattle.sums.proofs.spread.add_run.Given as goal

abbrev pub invariant-loop-j : goal.invariant-loop-j
invariant-loop-j l = (l.j ≤ l.stop) × (length l.xs ≡ length l.initial.xs) × (l.xs ≡ add_each (run l.at l.j) l.numbers l.initial.xs)

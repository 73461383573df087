-- `search::extended::raise_run` meets its contract. The loop's invariant: the entries passed are raised, and the others as they were.
-- Assumes nothing.
use mathlib.Core.Path.{◌≡◌}
use Prim.Native.Nat.{◌+◌}
use lib.IntN.{pos}
use lib.ListN.{get_or}
use Rattle.search.specs.Split.{guarded}
use Rattle.search.specs.Raised.{Passed}
use Rattle.search.proofs.extended.raise_run.Given as goal

abbrev pub invariant-loop-i : goal.invariant-loop-i
invariant-loop-i l = Passed (λ j v. v ≡ guarded (get_or l.a (l.at + j) (pos 0)) (get_or l.b l.to (pos 0))) l.initial.run l.i l.run

-- `search::extended::raise_extensions` meets its contract. The loop's invariant: the counts passed have raised the run. Assumes nothing.
use mathlib.Core.Path.{◌≡◌}
use Prim.Native.Nat.{◌+◌, ◌≤◌}
use lib.ListN.{length}
use Rattle.laws.specs.Greatest.{Below}
use Rattle.search.specs.Raised.{Raised}
use Rattle.search.specs.Extended.{Counted}
use Rattle.search.proofs.extended.raise_extensions.Given as goal

abbrev pub invariant-loop-x : goal.invariant-loop-x
invariant-loop-x l =
    (l.x ≤ l.count + 1) × (length l.run ≡ length l.initial.run) × Raised (λ j. Below (Counted l.sheet l.leave l.tally l.stop j) l.x) l.initial.run l.run

-- `blanks::walk::lowered` meets its contract. Assumes nothing.
use mathlib.Core.Path.{◌≡◌}
use Rattle.blanks.specs.Ready.{less}
use Rattle.blanks.proofs.walk.lowered.Given as goal

abbrev pub invariant-loop-drop : goal.invariant-loop-drop
invariant-loop-drop l = l.value ≡ less l.v l.drops l.at l.drop-index

-- `maxima::all_local` meets its contract: the multisets before index i are as they must be. Assumes nothing.
use Prim.Native.Nat.{◌≤◌}
use mathlib.Core.Path.{◌≡◌}
use lib.ListN.{length}
use Rattle.runs.specs.Runs.{present}
use Rattle.maxima.specs.Walk.{Reached}
use Rattle.maxima.proofs.all_local.Given as goal

abbrev pub invariant-loop-i : goal.invariant-loop-i
invariant-loop-i l =
    (l.i ≤ length l.m) × (length l.tally ≡ length l.initial.tally) × (l.word ≡ present l.tally) × Reached l.r l.d l.m l.tally l.at l.i

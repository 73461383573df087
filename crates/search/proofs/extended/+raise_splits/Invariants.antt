use Rattle.std.proofs.Common.{◌≡◌, ◌+◌, ◌-◌, ◌≤◌, length, take}
use Rattle.search.specs.Walk.{Turns}
use Rattle.search.specs.Raised.{Raised}
use Rattle.search.proofs.extended.+raise_splits.Given as goal

abbrev pub decreases-raise_splits : goal.decreases-raise_splits
decreases-raise_splits l = l.runs.stop

abbrev pub invariant-loop-count : goal.invariant-loop-count
invariant-loop-count l =
    (l.count ≤ l.last.count + 1) × (length l.run ≡ length l.initial.run) × Raised (λ y. Turns l.a l.b (length l.runs.tally.now) (take (l.last.stop - 1) l.runs.tally.now) l.last.count l.m l.part.tiles (l.part.before + y) l.other.tiles l.other.before l.count) l.initial.run l.run

abbrev pub invariant-loop-count-2 : goal.invariant-loop-count-2
invariant-loop-count-2 l =
    (l.count ≤ l.last.count + 1) × (length l.run ≡ length l.initial.run) × Raised (λ y. Turns l.a l.b (length l.runs.tally.now) (take (l.last.stop - 1) l.runs.tally.now) l.last.count l.m l.part.tiles (l.part.before + y) l.other.tiles l.other.before l.count) l.initial.run l.run

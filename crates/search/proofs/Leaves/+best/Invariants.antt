use Rattle.std.proofs.Common.{◌≤◌, ◌+◌, ◌-◌, length, take}
use Rattle.laws.specs.Greatest.{GreatestBy}
use Rattle.search.specs.Order.{KeptLe}
use Rattle.search.specs.Keep.{Turns}
use Rattle.search.proofs.Leaves.+best.Given as goal

abbrev pub decreases-best : goal.decreases-best
decreases-best l = l.runs.stop

abbrev pub invariant-loop-count : goal.invariant-loop-count
invariant-loop-count l =
    (l.low ≤ l.count) × (l.count ≤ l.high + 1) × GreatestBy KeptLe l.fn.best (Turns l.self.leave.now (length l.runs.tally.now) (take (l.last.stop - 1) l.runs.tally.now) l.last.count (length l.runs.tally.now - l.last.stop) l.kept.tiles l.kept.before l.left l.count) l.found

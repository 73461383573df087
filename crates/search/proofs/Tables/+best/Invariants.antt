use Rattle.std.proofs.Common.{◌≤◌, ◌+◌, ◌-◌, length, take}
use Rattle.laws.specs.Greatest.{Greatest}
use Rattle.search.specs.Walk.{Turns}
use Rattle.search.proofs.Tables.+best.Given as goal

abbrev pub decreases-best : goal.decreases-best
decreases-best l = l.runs.stop

abbrev pub invariant-loop-count : goal.invariant-loop-count
invariant-loop-count l =
    (l.count ≤ l.last.count + 1) × Greatest l.best (Turns l.self.sheet.now l.self.leave.now (length l.runs.tally.now) (take (l.last.stop - 1) l.runs.tally.now) l.last.count l.m l.played.tiles l.played.before l.kept.tiles l.kept.before l.count) l.most

abbrev pub invariant-loop-count-2 : goal.invariant-loop-count-2
invariant-loop-count-2 l =
    (l.count ≤ l.last.count + 1) × Greatest l.best (Turns l.self.sheet.now l.self.leave.now (length l.runs.tally.now) (take (l.last.stop - 1) l.runs.tally.now) l.last.count l.m l.played.tiles l.played.before l.kept.tiles l.kept.before l.count) l.most

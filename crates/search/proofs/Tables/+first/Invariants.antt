use Rattle.std.proofs.Common.{◌≤◌, ◌+◌, length, take}
use Rattle.laws.specs.Greatest.{GreatestBy}
use Rattle.search.specs.Order.{KeptLe}
use Rattle.search.specs.NaiveWalk.{Turns}
use Rattle.search.proofs.Tables.+first.Given as goal

abbrev pub decreases-first : goal.decreases-first
decreases-first l = l.i

abbrev pub invariant-loop-x : goal.invariant-loop-x
invariant-loop-x l =
    (l.x ≤ l.count + 1) × GreatestBy KeptLe l.fn.best (Turns l.self.sheet.now l.self.leave.now (length l.tally) (take l.j l.tally) l.count l.m l.played.tiles l.played.before l.kept.tiles l.kept.before l.among.at l.among.parts l.x) l.found

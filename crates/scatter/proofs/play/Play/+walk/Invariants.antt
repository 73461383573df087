-- the measure is the number of letters left; the table is raised by the turns so far
use Rattle.std.proofs.Common.{◌+◌, ◌-◌, ◌≤◌, length}
use Rattle.scatter.specs.Walk.{Turned}
use Rattle.scatter.proofs.play.Play.+walk.Given as goal

abbrev pub decreases-walk : goal.decreases-walk
decreases-walk l = length l.self.now.tally.now - l.t

abbrev pub invariant-loop-c : goal.invariant-loop-c
invariant-loop-c l = (1 ≤ l.c) × (l.c ≤ l.most + 1) × Turned l.self.worth l.self.leave.now l.initial.best l.self.tally.now l.self.caps.now l.k l.r l.t l.s l.best (l.c - 1)

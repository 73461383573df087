-- the letters from that of this turn on are done
use Rattle.std.proofs.Common.{◌-◌, ◌≤◌}
use Rattle.scatter.specs.Plan.{Summed}
use Rattle.scatter.proofs.plan.Plan.sum.Given as goal

abbrev pub invariant-loop-i : goal.invariant-loop-i
invariant-loop-i l = (l.i ≤ l.n) × Summed l.tally l.caps (l.n - l.i) l.rest l.tail l.room l.self.rest l.self.tail l.self.room

-- the letters before t are done
use Rattle.scatter.specs.Plan.{Lasting}
use Rattle.scatter.proofs.plan.Last.fill.Given as goal

abbrev pub invariant-loop-t : goal.invariant-loop-t
invariant-loop-t l = Lasting l.s l.tally l.t l.none l.self

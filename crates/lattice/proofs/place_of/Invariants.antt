use Rattle.std.proofs.Common.{◌+◌, ◌<◌, ◌≤◌}
use Rattle.binomials.specs.Binomial.{binomial}
use Rattle.lattice.proofs.place_of.Given as goal

abbrev pub invariant-loop-size : goal.invariant-loop-size
invariant-loop-size l = (l.size ≤ l.r) × (l.rank < binomial (l.size + l.n) l.n)

abbrev pub decreases-loop-size : goal.decreases-loop-size
decreases-loop-size l = l.size

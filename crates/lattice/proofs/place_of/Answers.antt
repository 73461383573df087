use Rattle.std.proofs.Common.{◌+◌, ◌-◌, ◌<◌, ◌≤◌, arith}
use Rattle.binomials.specs.Binomial.{binomial}
use Rattle.lattice.proofs.Filling.{smaller}
use Rattle.lattice.proofs.place_of.Goals.{In-loop-size}
use Rattle.lattice.proofs.place_of.Goals as goal

-- a rank before where a size starts is one of the size before
turn : (c : goal.In-loop-size) → (1 ≤ c.loop-size.size) × (c.args.rank < binomial (c.loop-size.size - 1 + c.args.n) c.args.n)
turn c = smaller c.args.n c.loop-size.size c.args.rank (omega (arith, c.start_of.ensures))

pub overflow_sub-size : goal.overflow_sub-size
overflow_sub-size c = (turn c).0

pub loop-size-smaller : goal.loop-size-smaller
loop-size-smaller c = let h = turn (goal.at.loop-size-smaller c).In-loop-size in omega arith

pub loop-size-preserved : goal.loop-size-preserved
loop-size-preserved c = let h = turn (goal.at.loop-size-preserved c).In-loop-size in (omega arith, h.1)

-- `search::rank_step` meets its contract.
-- Assumes nothing.
use Prim.Native.Nat.{ℕ, ◌+◌, ◌≤◌}
use native.Mathlib.Omega.{arith}
use Rattle.binomials.specs.Binomial.{binomial, monotone}
use Rattle.lattice.specs.Step.{step_is}
use Rattle.search.proofs.rank_step.Goals.{Start}
use Rattle.search.proofs.rank_step.Goals as goal

fewer : (c : goal.Start) → (k : ℕ) → k ≤ c.args.s → binomial (k + c.args.n) c.args.n ≤ binomial (c.args.s + c.args.n) c.args.n
fewer c k h = monotone c.args.n (omega arith)

pub overflow_sub-result : goal.overflow_sub-result
overflow_sub-result c = omega (arith, fewer (goal.at.overflow_sub-result c).Start)

pub returns : goal.returns
returns c =
    let a = c.args in
    omega (arith, step_is a.n a.s a.c)

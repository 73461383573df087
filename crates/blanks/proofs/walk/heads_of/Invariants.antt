-- the heads below k are right
use Rattle.std.proofs.Common.{◌≡◌, ℕ, ◌+◌, ◌-◌, ◌<◌, get_or}
use Rattle.lattice.specs.Tally.{start}
use Rattle.lattice.specs.Step.{step}
use Rattle.blanks.proofs.walk.heads_of.Given as goal

abbrev pub invariant-loop-k : goal.invariant-loop-k
invariant-loop-k l = (j : ℕ) → j < l.k → get_or l.begin-items j 0 ≡ start l.n l.size + step (l.n - 1) l.size j

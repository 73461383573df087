-- `sums::running_binomial` meets its contract. Before the turn at c the product is C(n, c - 1); a turn multiplies by n - (c - 1) and divides by c, and both steps are exact.
-- Assumes nothing.
use mathlib.Core.Path.{◌≡◌}
use Prim.Native.Nat.{◌+◌, ◌-◌, ◌≤◌}
use lib.IntN.{pos}
use Rattle.whole.specs.Whole.{whole}
use Rattle.binomials.specs.Binomial.{binomial}
use Rattle.sums.proofs.running_binomial.Given as goal

abbrev pub invariant-loop-c : goal.invariant-loop-c
invariant-loop-c l = (l.binom ≡ whole (pos (binomial l.n (l.c - 1)))) × (1 ≤ l.c) × (l.c ≤ l.k + 1)

abbrev pub decreases-loop-c : goal.decreases-loop-c
decreases-loop-c l = l.k + 1 - l.c

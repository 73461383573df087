-- `sums::running_binomial` meets its contract: a turn multiplies by n - (c - 1) and divides by c, and both steps are exact.
-- Assumes nothing.
use mathlib.Core.Path.{◌≡◌, ap, ◌∙◌}
use Prim.Native.Nat.{ℕ, ◌+◌, ◌-◌}
use native.Mathlib.Omega.{arith}
use lib.IntN.{pos}
use lib.Ieee.{Float, binary64, mul, div}
use Rattle.whole.specs.Whole.{whole}
use Rattle.whole.proofs.Steps.{one_literal}
use Rattle.binomials.specs.Binomial.{binomial}
use Rattle.sums.proofs.Running.{running}
use Rattle.sums.proofs.running_binomial.Goals.{In-loop-c}
use Rattle.sums.proofs.running_binomial.Goals as goal

-- what a turn makes of the product
turn : (c : goal.In-loop-c) → div binary64 (mul binary64 c.loop-c.binom (whole (pos (c.args.n - c.loop-c.c + 1)))) (whole (pos c.loop-c.c)) ≡ whole (pos (binomial c.args.n c.loop-c.c))
turn c =
    let n = c.args.n in
    let i = c.loop-c.c in
    ap (λ (x : Float). div binary64 (mul binary64 x (whole (pos (n - i + 1)))) (whole (pos i))) c.loop-c.invariant.0
    ∙ running n i c.loop-c.invariant.1 (omega arith) (omega arith) (c.requires.by_index i (omega arith))

pub loop-c-init : goal.loop-c-init
unfolding binomial
loop-c-init c = (one_literal, omega arith, omega arith)

pub loop-c-preserved : goal.loop-c-preserved
loop-c-preserved c =
    (turn (goal.at.loop-c-preserved c).In-loop-c ∙ ap (λ (x : ℕ). whole (pos (binomial c.args.n x))) (omega arith), omega arith, omega arith)

pub returns-2 : goal.returns-2
returns-2 c =
    turn (goal.at.returns-2 c).In-loop-c ∙ ap (λ (x : ℕ). whole (pos (binomial c.args.n x))) (omega arith)

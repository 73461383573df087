use Rattle.std.proofs.Common.{◌≡◌, ℕ, ◌+◌, ◌≤◌, ◌/◌, refl, sym, ap, ◌∙◌, arith}
use Rattle.binomials.specs.Binomial.{binomial, binomial_zero}
use Rattle.sums.proofs.Weights.{weight_none, weight_over, turn_is, product_over}
use Rattle.sums.proofs.weight.weight.Goals.{In_ok-hands}
use Rattle.sums.proofs.weight.weight.Goals as goal

-- what a turn makes of the hands
turn : (c : goal.In_ok-hands) → c.in_ok-hands.field-0 / (c.loop-j.j + 1) ≡ binomial c.args.tiles (c.loop-j.j + 1)
turn c =
    ap (λ (p : ℕ). p / (c.loop-j.j + 1)) c.in_ok-hands.ensures.1 ∙ turn_is c.args.tiles (omega arith) (omega arith) refl c.loop-j.invariant.0

pub returns-then-tiles-k : goal.returns-then-tiles-k
returns-then-tiles-k c = weight_none _ _ c.if-tiles-k.true

pub loop-j-init : goal.loop-j-init
loop-j-init c = (sym (binomial_zero _), omega arith)

pub returns-in_err-hands : goal.returns-in_err-hands
returns-in_err-hands c =
    let over : binomial c.args.tiles c.args.k ≤ 9007199254740992 → ⊥ =
    weight_over c.args.tiles {j = c.loop-j.j + 1} (omega arith) (omega arith) (product_over c.args.tiles (omega arith) (omega arith) refl c.loop-j.invariant.0 c.in_err-hands.ensures) in
    rw c.from_residual.ensures over

pub returns-then-hands-gt-LIMIT : goal.returns-then-hands-gt-LIMIT
returns-then-hands-gt-LIMIT c =
    weight_over c.args.tiles (omega arith) (omega arith) (rw (turn (goal.at.returns-then-hands-gt-LIMIT c).In_ok-hands) at c.if-hands-gt-LIMIT.true)

pub loop-j-preserved : goal.loop-j-preserved
loop-j-preserved c = (turn (goal.at.loop-j-preserved c).In_ok-hands, omega arith)

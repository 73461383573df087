-- A refusal touches nothing, and no refusal leaves the work to be done. Assumes nothing.
use Rattle.std.proofs.Common.{refl, ap, arith}
use Rattle.std.proofs.lemmas.Result.{err_from_is_err_and}
use Rattle.lattice.specs.declared.sizes.Sizes.{Sizes}
use Rattle.refusal.specs.Refusal.{code_some}
use Rattle.fused.specs.Answer.{FusedNumber, accepted_of}
use Rattle.fused.proofs.Refusals.{refused, accepts}
use Rattle.fused.proofs.calls.apportion_fused.Goals as goal

pub returns-in_err-sizes : goal.returns-in_err-sizes
returns-in_err-sizes c =
    let p = err_from_is_err_and c.from_residual.result c.from_residual.ensures.1 in
    rw (p.1, p.2, c.in_err-sizes.ensures.0) (refused (FusedNumber.sizes c.in_err-sizes.ensures.1) (λ z. omega arith))

pub returns-in_err-ranks : goal.returns-in_err-ranks
returns-in_err-ranks c =
    let p = err_from_is_err_and c.from_residual-in_err-ranks.result c.from_residual-in_err-ranks.ensures.1 in
    rw (← c.in_ok-sizes.ensures.0, ← c.in_ok-sizes.ensures.1, p.1, p.2) (refused c.in_err-ranks.ensures.number (code_some c.in_err-ranks.field-0.0))

pub fuse-requires : goal.fuse-requires
fuse-requires c =
    let e = c.in_ok-ranks.ensures in
    rw (ap (λ (s : Sizes). s.n) e.sizes, ap (λ (s : Sizes). s.r) e.sizes, e.by_index, e.letter_by_letter) (accepted_of e.number refl)

pub returns : goal.returns
returns c =
    let e = c.in_ok-ranks.ensures in
    rw (← c.in_ok-sizes.ensures.0, ← c.in_ok-sizes.ensures.1)
    (accepts e.number (rw (ap (λ (s : Sizes). s.n) e.sizes, ap (λ (s : Sizes). s.r) e.sizes, e.by_index, e.letter_by_letter) at c.fuse.ensures))

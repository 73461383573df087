-- A part that is refused at one of its bytes is refused.
use Rattle.std.proofs.Common.{◌≡◌, ◌++◌, take, Result, Err, IfErr, sym, arith, subst}
use Rattle.std.proofs.lemmas.Grind.{common_steps}
use Rattle.refusal.specs.declared.Refusal.{Refusal}
use Rattle.listing.specs.Reading.{IsRefused}
use Rattle.listing.proofs.Words.{refused_in, so_far_refused}
use Rattle.listing.proofs.session.Session.feed.Goals as goal

pub returns-in_err-push-clause-so_far : goal.returns-in_err-push-clause-so_far
returns-in_err-push-clause-so_far c = λ text so_far.
    let not = c.in_err-push.ensures.err (text ++ take c.loop-byte.byte-index c.args.bytes.now) (c.loop-byte.invariant.so_far text so_far) in
    so_far_refused (sym c.in_err-push.ensures.kept) (refused_in text c.args.bytes.now c.loop-byte.byte-index c.loop-byte-test.true not)

pub returns-in_err-push-clause-err : goal.returns-in_err-push-clause-err
returns-in_err-push-clause-err c =
    let same : c.from_residual.result ≡ Err c.in_err-push.field-0.0 = grind (arith, common_steps) in
    λ text so_far.
    let not = c.in_err-push.ensures.err (text ++ take c.loop-byte.byte-index c.args.bytes.now) (c.loop-byte.invariant.so_far text so_far) in
    subst (λ (r : Result (Unit {0}) Refusal). IfErr r (IsRefused (text ++ c.args.bytes.now))) (sym same) (refused_in text c.args.bytes.now c.loop-byte.byte-index c.loop-byte-test.true not)

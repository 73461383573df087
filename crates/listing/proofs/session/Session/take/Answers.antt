-- By what the reader gives at the byte.
use Rattle.std.proofs.Common.{refl, ap, ◌∙◌, Ok, rules}
use Rattle.std.proofs.lemmas.Int.{to_z-of_z}
use mir.Syntax.{w128}
use mir.Val.{SFits}
use Rattle.listing.proofs.Words.{next_none, next_number, next_refused, next_malformed}
use Rattle.listing.proofs.session.Session.take.Goals as goal

pub returns-in-Ok-None-clause-ok : goal.returns-in-Ok-None-clause-ok
returns-in-Ok-None-clause-ok c = λ text so_far. next_none so_far c.args.byte c.push.ensures.given (c.in-Ok-None.is ∙ ap Ok c.in-Ok-None.field-0-is) c.push.ensures.state refl

pub returns-in-Ok-Some-clause-ok : goal.returns-in-Ok-Some-clause-ok
returns-in-Ok-Some-clause-ok c =
    let fits : SFits w128 c.in-Ok-Some.number = search rules in
    λ text so_far. next_number so_far c.args.byte c.push.ensures.given _ c.take.result (c.in-Ok-Some.is ∙ ap Ok c.in-Ok-Some.field-0-is) c.push.ensures.state (simp to_z-of_z at c.take.ensures.ok)

pub returns-in-Ok-Some-clause-err : goal.returns-in-Ok-Some-clause-err
returns-in-Ok-Some-clause-err c =
    let fits : SFits w128 c.in-Ok-Some.number = search rules in
    λ text so_far. next_refused so_far c.args.byte c.push.ensures.given c.take.result (c.in-Ok-Some.is ∙ ap Ok c.in-Ok-Some.field-0-is) (simp to_z-of_z at c.take.ensures.err)

pub returns-in-Err-clause-err : goal.returns-in-Err-clause-err
returns-in-Err-clause-err c = λ text so_far. next_malformed so_far c.args.byte c.push.ensures.given c.in-Err.is

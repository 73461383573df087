-- By what the reader gives at the end.
use Rattle.std.proofs.Common.{◌≡◌, sym, ap, ◌∙◌, Ok, Err, [], append-nil, rules, arith}
use Rattle.std.proofs.lemmas.Grind.{common_steps}
use Rattle.std.proofs.lemmas.Int.{to_z-of_z}
use mir.Syntax.{w128}
use mir.Val.{SFits}
use Rattle.listing.specs.Reading.{reading}
use Rattle.listing.specs.Taken.{reading_as}
use Rattle.listing.proofs.Words.{accepting, refused, ends_none, ends_number, ends_refused, ends_malformed}
use Rattle.listing.proofs.session.Session.finish.Goals as goal

pub returns-in_err-standing-clause-given : goal.returns-in_err-standing-clause-given
returns-in_err-standing-clause-given c =
    let kept : c.args.self.standing ≡ Err c.in_err-standing.field-0.0 = grind (arith, common_steps) in
    let same : c.from_residual.result ≡ Err c.in_err-standing.field-0.0 = grind (arith, common_steps) in
    λ text so_far. ap reading (sym (append-nil text)) ∙ refused kept so_far [] ∙ ap reading_as (sym same)

pub returns-in_err-take-in-Ok-Some-clause-given : goal.returns-in_err-take-in-Ok-Some-clause-given
returns-in_err-take-in-Ok-Some-clause-given c =
    let fits : SFits w128 c.in-Ok-Some.number = search rules in
    let kept : c.args.self.standing ≡ Ok tt = grind (arith, common_steps) in
    let same : c.from_residual-in_err-take-in-Ok-Some.result ≡ Err c.in_err-take-in-Ok-Some.field-0.0 = grind (arith, common_steps) in
    λ text so_far. ends_refused (accepting kept so_far) c.end.ensures (c.in-Ok-Some.is ∙ ap Ok c.in-Ok-Some.field-0-is) (simp to_z-of_z at c.in_err-take-in-Ok-Some.ensures.err) ∙ ap reading_as (sym same)

pub returns-in-Err-clause-given : goal.returns-in-Err-clause-given
returns-in-Err-clause-given c =
    let kept : c.args.self.standing ≡ Ok tt = grind (arith, common_steps) in
    λ text so_far. ends_malformed (accepting kept so_far) c.end.ensures c.in-Err.is

pub returns-in-Ok-None-clause-given : goal.returns-in-Ok-None-clause-given
returns-in-Ok-None-clause-given c =
    let kept : c.args.self.standing ≡ Ok tt = grind (arith, common_steps) in
    λ text so_far. ends_none (accepting kept so_far) c.end.ensures (c.in-Ok-None.is ∙ ap Ok c.in-Ok-None.field-0-is) ∙ c.finish.ensures

pub returns-in_ok-take-in-Ok-Some-clause-given : goal.returns-in_ok-take-in-Ok-Some-clause-given
returns-in_ok-take-in-Ok-Some-clause-given c =
    let fits : SFits w128 c.in-Ok-Some.number = search rules in
    let kept : c.args.self.standing ≡ Ok tt = grind (arith, common_steps) in
    λ text so_far. ends_number (accepting kept so_far) c.end.ensures (c.in-Ok-Some.is ∙ ap Ok c.in-Ok-Some.field-0-is) (simp to_z-of_z at c.in_ok-take-in-Ok-Some.ensures.ok) ∙ c.finish-in-Ok-Some.ensures

-- A text that is refused at one of its bytes.
use Rattle.std.proofs.Common.{◌≡◌, [], Err, sym, ap, ◌∙◌, append-nil, arith}
use Rattle.std.proofs.lemmas.Grind.{common_steps}
use Rattle.listing.specs.Reading.{reading}
use Rattle.listing.specs.Taken.{reading_as}
use Rattle.listing.proofs.form.Given.parse.Goals as goal

pub returns-in_err-feed : goal.returns-in_err-feed
returns-in_err-feed c =
    let same : c.from_residual.result ≡ Err c.in_err-feed.field-0.0 = grind (arith, common_steps) in
    ap reading (sym (append-nil c.args.text.now)) ∙ c.in_err-feed.ensures.err [] c.new-session.ensures.so_far [] ∙ ap reading_as (sym same)

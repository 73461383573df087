-- A whole number is its own whole part.
use Rattle.std.proofs.Common.{ap, ◌∙◌, to_z-of_z, w64}
use lib.Ieee.{to_signed}
use Rattle.whole.proofs.Steps.{to_signed_whole}
use Rattle.whole.proofs.Tests.{within, of_true, whole_low, whole_high}
use Rattle.listing.proofs.page.integer.Goals as goal

pub truncating_f64_to_i64-requires-clause-lower_bound : goal.truncating_f64_to_i64-requires-clause-lower_bound
truncating_f64_to_i64-requires-clause-lower_bound c = (within c.args.x (of_true (whole_low c.args.x c.requires)) (of_true (whole_high c.args.x c.requires))).low

pub truncating_f64_to_i64-requires-clause-upper_bound : goal.truncating_f64_to_i64-requires-clause-upper_bound
truncating_f64_to_i64-requires-clause-upper_bound c = (within c.args.x (of_true (whole_low c.args.x c.requires)) (of_true (whole_high c.args.x c.requires))).high

pub returns : goal.returns
returns c v =
    to_z-of_z {w = w64} (record { sfits = c.truncating_f64_to_i64.type_inv })
    ∙ c.truncating_f64_to_i64.ensures ∙ ap (to_signed 63) v.is ∙ to_signed_whole v.number v.small

-- +0.0 has the bit pattern 0, and no other value has it. Assumes nothing.
use Rattle.std.proofs.Common.{sym, ap, ◌∙◌}
use mathlib.Core.Bool.{not, false≢true}
use lib.Ieee.{is_nan}
use Rattle.whole.proofs.Tests.{of_true, not_nan, zero_number, clear_bits, bits_clear}
use Rattle.whole.proofs.is_clear.Goals as goal

pub float_to_bits-result : goal.float_to_bits-result
float_to_bits-result c = not_nan c.args.x (sym c.if-not-is_nan.ensures.value)

pub returns-then-not-is_nan : goal.returns-then-not-is_nan
returns-then-not-is_nan c = (clear_bits c.args.x (of_true c.well_formed.0.1), bits_clear c.args.x)

pub returns-else-not-is_nan : goal.returns-else-not-is_nan
returns-else-not-is_nan c =
    (λ e. absurd (false≢true (ap not (sym c.if-not-is_nan.false) ∙ e)), λ e. absurd (false≢true (sym zero_number ∙ ap is_nan (sym e) ∙ sym c.if-not-is_nan.ensures.value)))

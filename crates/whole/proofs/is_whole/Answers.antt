-- `whole::is_whole` meets its contract. Between the two tests x has a whole part that an f64 holds, and x is a whole number exactly where the two have one bit pattern.
-- Assumes nothing.
use Rattle.std.proofs.Common.{◌≡◌, sym, ◌∙◌, subst, w64, to_z, of_z}
use mathlib.Core.Bool.{false≢true}
use lib.Ieee.{of_bits, neg, to_signed}
use mir.ValLaws.{to_z-of_z}
use Rattle.whole.specs.Whole.{Small}
use Rattle.whole.proofs.Tests.{Within, within, of_true, small_in_float, whole_number, whole_low, whole_high, whole_of_bits, bits_of_whole}
use Rattle.whole.proofs.is_whole.Goals.{After-truncating_f64_to_i64-n, Then-x-2, else-x-via-then-x+else-x-2, else-x-via-else-x}
use Rattle.whole.proofs.is_whole.Goals as goal

between : (c : goal.Then-x-2) → Within c.args.x
unfolding of_bits neg
between c = within c.args.x (of_true c.if-x.true) (of_true c.if-x-2.true)

pub truncating_f64_to_i64-n-requires : goal.truncating_f64_to_i64-n-requires
truncating_f64_to_i64-n-requires c = record { lower_bound = (between c).low; upper_bound = (between c).high }

-- the whole part n, as the machine reads it back from its bits
read_back : (c : goal.After-truncating_f64_to_i64-n) → to_z w64 (of_z w64 c.truncating_f64_to_i64-n.result) ≡ to_signed 63 c.args.x
read_back c = to_z-of_z w64 c.truncating_f64_to_i64-n.result (record { sfits = c.truncating_f64_to_i64-n.type_inv }) ∙ c.truncating_f64_to_i64-n.ensures

small : (c : goal.After-truncating_f64_to_i64-n) → Small (to_z w64 (of_z w64 c.truncating_f64_to_i64-n.result))
small c = subst Small (sym (read_back c)) (between (goal.at.After-truncating_f64_to_i64-n c).Then-x-2).small

pub int_to_float-result : goal.int_to_float-result
int_to_float-result c = small_in_float (to_z w64 (of_z w64 c.truncating_f64_to_i64-n.result)) (small (goal.at.int_to_float-result c).After-truncating_f64_to_i64-n)

pub float_to_bits-result : goal.float_to_bits-result
float_to_bits-result c = whole_number (to_z w64 (of_z w64 c.truncating_f64_to_i64-n.result)) (small (goal.at.float_to_bits-result c).After-truncating_f64_to_i64-n)

pub returns-then-x-2 : goal.returns-then-x-2
returns-then-x-2 c =
    let x = c.args.x in
    let n = to_z w64 (of_z w64 c.truncating_f64_to_i64-n.result) in
    (whole_of_bits x n (of_true c.well_formed.0.1) (read_back (goal.at.returns-then-x-2 c).After-truncating_f64_to_i64-n) (between (goal.at.returns-then-x-2 c).Then-x-2), bits_of_whole x n (read_back (goal.at.returns-then-x-2 c).After-truncating_f64_to_i64-n))

pub returns : goal.returns
unfolding of_bits neg
returns c = (
  λ e. absurd (false≢true e),
  λ w. elim c.else-x.branch [
    | else-x-via-then-x+else-x-2 v ↦ sym v.if-x-2.false ∙ whole_high c.args.x w
    | else-x-via-else-x v ↦ sym v.if-x.false ∙ whole_low c.args.x w
  ],
)

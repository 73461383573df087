-- `search::sum_guarded` meets its contract: two entries that are not beyond have a sum that fits.
-- Assumes nothing.
use mathlib.Core.Path.{◌≡◌, sym, ap, ◌∙◌}
use mathlib.Core.Bool.{Bool}
use native.Mathlib.Omega.{arith}
use mir.Syntax.{w32}
use mir.Val.{SFits, to_z, of_z}
use mir.ValLaws.{to_z-of_z}
use lib.IntN.{ℤ}
use Rattle.laws.specs.Integer.{sfits_nat_abs, sfits_read, read_sum}
use Rattle.search.specs.Split.{small}
use Rattle.search.specs.Best.{and_false, and_false_left, guarded_in, guarded_out, sum_small}
use Rattle.search.proofs.sum_guarded.Goals.{else-is_small-via-then-is_small+else-is_small-2, else-is_small-via-else-is_small}
use Rattle.search.proofs.sum_guarded.Goals as goal

-- the answer of a test, which reads its argument back from bits
told : {z : ℤ} {b t : Bool} → SFits w32 z → b ≡ small (to_z w32 (of_z w32 z)) → b ≡ t → small z ≡ t
told {z} f e g = ap small (sym (to_z-of_z w32 z f)) ∙ sym e ∙ g

pub overflow_add-result : goal.overflow_add-result
overflow_add-result c =
    let a = told c.ranges.a c.is_small.ensures c.if-is_small.true in
    let b = told c.ranges.b c.is_small-then-is_small.ensures c.if-is_small-2.true in
    sfits_read w32 c.ranges.a c.ranges.b (sfits_nat_abs (sum_small c.args.a c.args.b a b) (omega arith))

pub returns-then-is_small-2 : goal.returns-then-is_small-2
returns-then-is_small-2 c =
    let a = told c.ranges.a c.is_small.ensures c.if-is_small.true in
    let b = told c.ranges.b c.is_small-then-is_small.ensures c.if-is_small-2.true in
    read_sum w32 c.ranges.a c.ranges.b (sfits_nat_abs (sum_small c.args.a c.args.b a b) (omega arith)) ∙ sym (guarded_in c.args.a c.args.b a b)

pub returns-else-is_small : goal.returns-else-is_small
returns-else-is_small c =
    sym (guarded_out c.args.a c.args.b (elim c.else-is_small.branch [
      | else-is_small-via-then-is_small+else-is_small-2 w ↦ and_false (small c.args.a) (small c.args.b) (told c.ranges.b w.is_small-then-is_small.ensures w.if-is_small-2.false)
      | else-is_small-via-else-is_small w ↦ and_false_left (small c.args.a) (small c.args.b) (told c.ranges.a c.is_small.ensures w.if-is_small.false)
    ]))

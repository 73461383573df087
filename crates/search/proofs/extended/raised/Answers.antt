-- `search::extended::raised` meets its contract: the sum of two entries that are not beyond fits. Assumes nothing.
use Rattle.std.proofs.Common.{◌∙◌, sym, w32, arith}
use mir.ValLaws.{to_z-of_z}
use Rattle.laws.specs.Integer.{sfits_nat_abs, sfits_read, read_sum, back}
use Rattle.search.specs.Best.{guarded_in, sum_small, int_max_greatest}
use Rattle.search.proofs.extended.raised.Goals as goal

pub overflow_add-a : goal.overflow_add-a
overflow_add-a c = sfits_read w32 c.ranges.a c.ranges.b (sfits_nat_abs (sum_small c.args.a c.args.b c.requires.left c.requires.right) (omega arith))

pub returns : goal.returns
returns c =
    let sum = read_sum w32 c.ranges.a c.ranges.b (sfits_nat_abs (sum_small c.args.a c.args.b c.requires.left c.requires.right) (omega arith)) ∙ sym (guarded_in c.args.a c.args.b c.requires.left c.requires.right) in
    rw (back c.max.result c.max.type_inv, rw (to_z-of_z w32 c.args.entry c.ranges.entry, sum) at c.max.ensures.value) (int_max_greatest _ _)

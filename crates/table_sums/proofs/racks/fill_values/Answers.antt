-- `table_sums::racks::fill_values` meets its contract. Assumes nothing.
use Rattle.std.proofs.Common.{◌∙◌, ◌<◌, length, add-one, arith}
use Rattle.std.proofs.lemmas.List.{set-get_or}
use Rattle.std.specs.Float.{nan}
use Rattle.laws.specs.Integer.{back}
use Rattle.table_sums.specs.Racks.{valued_more, value_there, value_none, valued_part, part_long}
use Rattle.table_sums.proofs.racks.fill_values.Goals.{then-ways-j, else-ways-j}
use Rattle.table_sums.proofs.racks.fill_values.Goals as goal

pub loop-j-preserved : goal.loop-j-preserved
loop-j-preserved c =
    let l = c.loop-j in
    let h : l.j < length l.sum-items = omega (arith, l.auto.sum-items, c.loop-j-test.true) in
    rw add-one (valued_more 0 _ _ (omega arith) h l.invariant (elim c.if-ways-j.branch [
      | then-ways-j w ↦ (rw w.from.ensures at w.sum-items-is) ∙ value_there _ _ _ _ (back _ (omega arith)) w.if-ways-j.true
      | else-ways-j w ↦ w.sum-items-is ∙ set-get_or l.sum-items l.j nan ∙ value_none _ _ _ _ w.if-ways-j.false
    ]))

pub returns : goal.returns
returns c =
    let a = c.args in
    let r = c.requires in
    valued_part a.lo a.best.now a.ways.now a.num.now r.racks r.ways r.nums (omega (arith, part_long a.lo a.num.now (omega arith), c.loop-j-test.false)) c.loop-j.invariant

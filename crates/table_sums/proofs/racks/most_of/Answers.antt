-- `table_sums::racks::most_of` meets its contract. Assumes nothing.
use Rattle.std.proofs.Common.{◌+◌, ◌∙◌, ◌<◌, ◌-◌, length, pos, arith}
use Rattle.laws.specs.Integer.{back}
use Rattle.laws.specs.Loops.{ascend_more}
use Rattle.table_sums.specs.Racks.{larger_at, larger_is, part_long, part_at}
use Rattle.table_sums.proofs.racks.most_of.Goals as goal

pub loop-j-preserved : goal.loop-j-preserved
loop-j-preserved c =
    let a = c.args in
    let l = c.loop-j in
    let there : l.j < length a.best.now - a.lo = omega (arith, part_long a.lo a.best.now c.requires.racks, c.loop-j-test.true) in
    ascend_more (λ j. larger_at a.best.now a.ways.now (a.lo + j)) l.j 16 l.most _ l.invariant
    (larger_is a.best.now a.ways.now (a.lo + l.j) l.most (back _ (omega arith) ∙ part_at a.lo a.best.now c.requires.racks l.j (pos 0) there) c.larger_drawn-most.ensures)

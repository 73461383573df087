use Rattle.std.proofs.Common.{◌<◌, ◌∙◌, length-set, arith}
use Rattle.maxima.proofs.Laws.{row_more, row_stores}
use Rattle.maxima.proofs.lift_row.Goals as goal

pub loop-rank-preserved : goal.loop-rank-preserved
loop-rank-preserved c =
    let at = c.loop-rank in
    let within : at.rank-index < c.args.n = omega (arith, c.loop-rank-test.true, at.auto.rank-index-end) in
    let stored = row_stores c.args.n c.args.idx at.rank-index c.args.add.now at.dst _ within (omega arith) c.max.type_inv c.max.ensures.value in
    (length-set at.dst _ _ ∙ at.auto.dst, row_more _ _ at.rank-index _ c.args.dst.now at.dst _ c.requires within (omega arith) at.invariant.1 stored)

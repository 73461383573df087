-- the counts so far of the last letter are done, in both tables
use Rattle.std.proofs.Common.{◌-◌, arith}
use Rattle.sums.proofs.Spreading.{turned_none, turned_more, extended_done}
use Rattle.sums.proofs.spread.spread.Goals as goal

pub loop-c-init : goal.loop-c-init
loop-c-init c = (omega arith, turned_none _ _ _, turned_none _ _ _)

pub loop-c-preserved : goal.loop-c-preserved
loop-c-preserved c =
    let l = c.loop-c.invariant in
    let v = rw (c.first-runs.ensures.tally, c.first-runs.ensures.stop) at c.spread_count.ensures in
    (omega arith, turned_more l.1 v.num, turned_more l.2 v.den)

pub returns-2 : goal.returns-2
returns-2 c =
    let l = c.loop-c.invariant in
    let a = c.args in
    let k = c.from-count.ensures in
    let v = rw (c.first-runs.ensures.tally, c.first-runs.ensures.stop) at c.spread_count.ensures in
    record {
      num = extended_done a.tally.now (a.stop - 1) a.values.now a.num.now k (turned_more l.1 v.num) (omega arith);
      den = extended_done a.tally.now (a.stop - 1) a.ways.now a.den.now k (turned_more l.2 v.den) (omega arith);
    }

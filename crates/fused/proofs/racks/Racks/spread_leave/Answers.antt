use Rattle.std.proofs.Common.{sym, ◌∙◌, length}
use Rattle.fused.specs.Zeta.{clipped, ways_at}
use Rattle.fused.specs.Spreads.{drawn_at, spreads, taking}
use Rattle.fused.proofs.Laws.{rest_summed, summed_long, spreading_of, leave_done, leave_left}
use Rattle.fused.proofs.racks.Racks.spread_leave.Goals as goal

pub take_racks-requires : goal.take_racks-requires
take_racks-requires c =
    let p = c.requires in
    let a = c.args.self.now in
    taking (spreading_of a.sizes p.letters a.bests a.full) p.leave p.values p.counts

pub spread-requires : goal.spread-requires
spread-requires c =
    let a = c.args.self.now in
    let p = c.requires in
    let t = c.take_racks.ensures in
    record { spreads = spreads (spreading_of a.sizes p.letters a.bests a.full).sizes p.leave (summed_long _ t.values p.values); same = summed_long _ t.counts p.counts ∙ sym (summed_long _ t.values p.values) }

pub returns-then-count : goal.returns-then-count
returns-then-count c =
    let a = c.args in
    let p = c.requires in
    let n = length a.tally.now in
    let t = c.take_racks.ensures in
    let v = c.sum_of-value.ensures ∙ rest_summed c.take_racks.new.values in
    let w = c.sum_of-count.ensures ∙ rest_summed c.take_racks.new.counts in
    let taken = c.if-count.true in
    let e = c.spread.ensures in
    record {
      num = leave_done n a.self.now.sizes.leaves a.self.now.ways.now (drawn_at a.self.now.sizes.leaves a.self.now.ways.now (clipped a.self.now.best.now)) p.leave t.counts p.counts w taken t.values p.values v a.num.now e.num;
      den = leave_done n a.self.now.sizes.leaves a.self.now.ways.now (ways_at a.self.now.sizes.leaves a.self.now.ways.now) p.leave t.counts p.counts w taken t.counts p.counts w a.den.now e.den;
    }

pub returns-else-count : goal.returns-else-count
returns-else-count c =
    let a = c.args in
    let p = c.requires in
    let n = length a.tally.now in
    let t = c.take_racks.ensures in
    let w = c.sum_of-count.ensures ∙ rest_summed c.take_racks.new.counts in
    let left = c.if-count.false in
    record {
      num = leave_left n a.self.now.sizes.leaves a.self.now.ways.now (drawn_at a.self.now.sizes.leaves a.self.now.ways.now (clipped a.self.now.best.now)) p.leave t.counts p.counts w left a.num.now;
      den = leave_left n a.self.now.sizes.leaves a.self.now.ways.now (ways_at a.self.now.sizes.leaves a.self.now.ways.now) p.leave t.counts p.counts w left a.den.now;
    }

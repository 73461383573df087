-- There are as many numbers as racks that extend the leave, and one more. Assumes nothing.
use Rattle.std.proofs.Common.{◌+◌, ◌≤◌, sym, length-take-le, arith}
use Rattle.fused.specs.Spreads.{leave_stop}
use Rattle.fused.proofs.Laws.{spreading_of}
use Rattle.fused.proofs.racks.Racks.spread_at.Goals.{After-racks-k}
use Rattle.fused.proofs.racks.Racks.spread_at.Goals as goal

few : (c : goal.After-racks-k) → c.racks-k.result + 1 ≤ 65
few c =
    let a = c.args.self.now in
    let h = leave_stop (spreading_of a.sizes c.requires.letters a.bests a.full).sizes c.requires.leave in
    omega (arith, c.racks-k.ensures, h.0, h.1, h.2)

pub slice_bounds-spread_leave-end-2 : goal.slice_bounds-spread_leave-end-2
slice_bounds-spread_leave-end-2 c =
    sym (length-take-le _ _ (omega (arith, few (goal.at.slice_bounds-spread_leave-end-2 c).After-racks-k)))

pub slice_bounds-spread_leave-end-4 : goal.slice_bounds-spread_leave-end-4
slice_bounds-spread_leave-end-4 c =
    sym (length-take-le _ _ (omega (arith, few (goal.at.slice_bounds-spread_leave-end-4 c).After-racks-k)))

pub spread_leave-requires-clause-values : goal.spread_leave-requires-clause-values
spread_leave-requires-clause-values c =
    omega (arith, length-take-le (c.racks-k.result + 1) c.args.values.now (omega (arith, few (goal.at.spread_leave-requires-clause-values c).After-racks-k)), c.racks-k.ensures)

pub spread_leave-requires-clause-counts : goal.spread_leave-requires-clause-counts
spread_leave-requires-clause-counts c =
    omega (arith, length-take-le (c.racks-k.result + 1) c.args.counts.now (omega (arith, few (goal.at.spread_leave-requires-clause-counts c).After-racks-k)), c.racks-k.ensures)

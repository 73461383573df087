-- `fused::plain::take_racks` meets its contract. The loop's invariant: the racks so far have their numbers. Assumes nothing.
use Prim.Native.Nat.{◌-◌, ◌≤◌}
use lib.ListN.{length}
use Rattle.fused.specs.Zeta.{clipped, ways_at}
use Rattle.fused.specs.Spreads.{drawn_at}
use Rattle.fused.proofs.Laws.{TakenTo}
use Rattle.fused.proofs.racks.Racks.take_racks.Given as goal

abbrev pub invariant-loop-j : goal.invariant-loop-j
invariant-loop-j l =
    (l.j ≤ length l.initial.values - 1) × TakenTo (drawn_at l.self.sizes.leaves l.self.ways.now (clipped l.self.best.now)) l.first l.initial.values l.values l.j × TakenTo (ways_at l.self.sizes.leaves l.self.ways.now) l.first l.initial.counts l.counts l.j

-- The leaves before the k-th are done, and the walk has reached it. Assumes nothing.
use Rattle.std.proofs.Common.{◌≡◌, ◌+◌, ◌-◌, ◌≤◌, length}
use Rattle.laws.specs.Loops.{ascend}
use Rattle.extensions.specs.Onward.{Reached}
use Rattle.fused.specs.Zeta.{clipped, ways_at}
use Rattle.fused.specs.Spreads.{drawn_at, spread_leave}
use Rattle.fused.proofs.racks.Racks.spread_racks.Given as goal

abbrev pub invariant-loop : goal.invariant-loop
invariant-loop l =
    let s = l.self.sizes in
    record {
      inside : l.counter ≤ s.leaves;
      begun : l.from ≤ l.counter;
      num : l.num ≡ ascend (λ j. spread_leave s.n s.r s.leaves l.self.ways.now (drawn_at s.leaves l.self.ways.now (clipped l.self.best.now)) (l.from + j)) (l.counter - l.from) l.initial.num;
      den : l.den ≡ ascend (λ j. spread_leave s.n s.r s.leaves l.self.ways.now (ways_at s.leaves l.self.ways.now) (l.from + j)) (l.counter - l.from) l.initial.den;
      nums : length l.num ≡ length l.initial.num;
      dens : length l.den ≡ length l.initial.den;
      reached : Reached s.n s.r l.counter l.tally l.e.word l.e.stop l.e.first;
    }

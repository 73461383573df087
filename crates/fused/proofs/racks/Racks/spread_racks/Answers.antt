-- A walk over the leaves of one tile less than a full rack. Assumes nothing.
use Rattle.std.proofs.Common.{◌≡◌, ℕ, ◌+◌, ◌-◌, ◌<◌, length, refl, ap, ◌∙◌, subst, arith}
use Rattle.laws.specs.Loops.{ascend_more}
use Rattle.lattice.specs.Tally.{start}
use Rattle.lattice.specs.Served.{Served, facts}
use Rattle.extensions.specs.Racks.{Leave}
use Rattle.extensions.specs.Onward.{reached_first, reached_walks, reached_next, some_leave}
use Rattle.fused.specs.Zeta.{clipped, ways_at}
use Rattle.fused.specs.Spreads.{drawn_at, spread_leave, length_leave_added, leaves_from}
use Rattle.fused.proofs.Laws.{leave_own, leave_read, spreading_of}
use Rattle.fused.proofs.racks.Racks.spread_racks.Goals.{Start}
use Rattle.fused.proofs.racks.Racks.spread_racks.Goals as goal

sizes : (c : goal.Start) → Served c.args.self.now.sizes.n c.args.self.now.sizes.r
sizes c = facts c.args.self.now.sizes.n c.args.self.now.sizes.r c.args.self.now.sizes.is_served

pub overflow_sub-sizes : goal.overflow_sub-sizes
overflow_sub-sizes c = (sizes (goal.at.overflow_sub-sizes c).Start).some_tile

pub size_start-from-requires : goal.size_start-from-requires
size_start-from-requires c =
    let f = sizes (goal.at.size_start-from-requires c).Start in
    record { letters = f.letters; tiles = omega (arith, f.tiles) }

pub extend_at-e-requires : goal.extend_at-e-requires
extend_at-e-requires c =
    let s = c.args.self.now.sizes in
    let from = c.size_start-from.ensures in
    rw c.requires
    (record { served = s.is_served; from = omega (arith, from); below = omega (arith, from, some_leave s.n s.r s.is_served) })

pub loop-init : goal.loop-init
loop-init c =
    let a = c.args.self.now in
    let s = a.sizes in
    let first = subst (λ (k : ℕ). Leave k s.r c.size_start-from.result c.extend_at-e.new.tally c.extend_at-e.result.stop c.extend_at-e.result.first) c.requires c.extend_at-e.ensures.leave in
    let none : c.size_start-from.result - c.size_start-from.result ≡ 0 = omega arith in
    record {
      inside = leaves_from (spreading_of s refl a.bests a.full) c.size_start-from.ensures;
      begun = omega arith;
      num = rw none refl;
      den = rw none refl;
      nums = refl;
      dens = refl;
      reached = reached_first (first, c.extend_at-e.ensures.word);
    }

pub spread_at-requires : goal.spread_at-requires
spread_at-requires c =
    let s = c.args.self.now.sizes in
    let l = c.loop in
    let at = l.invariant.reached in
    record {
      letters = at.letters;
      leave = leave_own (at.here (omega (arith, l.invariant.inside, c.loop-test.true, s.starts)));
    }

pub next_leave-e-requires : goal.next_leave-e-requires
next_leave-e-requires c =
    let s = c.args.self.now.sizes in
    let w = reached_walks c.loop.invariant.reached (omega (arith, c.loop-test.true, s.starts)) s.is_served in
    record { walking = w.0; word = w.1 }

pub loop-preserved : goal.loop-preserved
loop-preserved c =
    let a = c.args in
    let s = a.self.now.sizes in
    let l = c.loop in
    let v = c.spread_at.ensures in
    let next = c.next_leave-e.ensures in
    let from = c.size_start-from.result in
    let done = l.counter - from in
    let here : from + done ≡ l.counter = omega (arith, l.invariant.begun) in
    let more : l.counter + 1 - from ≡ done + 1 = omega (arith, l.invariant.begun) in
    let taken : l.counter < start s.n s.r = omega (arith, c.loop-test.true, s.starts) in
    let at = rw (← here) at (l.invariant.reached.here taken) in
    let best = drawn_at s.leaves a.self.now.ways.now (clipped a.self.now.best.now) in
    let ways = ways_at s.leaves a.self.now.ways.now in
    let p = leave_read s.leaves a.self.now.ways.now best l.num at v.num in
    let q = leave_read s.leaves a.self.now.ways.now ways l.den at v.den in
    record {
      inside = omega (arith, c.loop-test.true);
      begun = omega (arith, l.invariant.begun);
      num = rw more (ascend_more (λ j. spread_leave s.n s.r s.leaves a.self.now.ways.now best (from + j)) done a.num.now l.num _ l.invariant.num p);
      den = rw more (ascend_more (λ j. spread_leave s.n s.r s.leaves a.self.now.ways.now ways (from + j)) done a.den.now l.den _ l.invariant.den q);
      nums = ap length p ∙ length_leave_added _ _ _ _ _ _ ∙ l.invariant.nums;
      dens = ap length q ∙ length_leave_added _ _ _ _ _ _ ∙ l.invariant.dens;
      reached = reached_next l.invariant.reached taken (next.onward, next.word);
    }

-- A walk over the leaves of one tile less than a full rack. Assumes nothing.
use Rattle.std.proofs.Common.{ℕ, ◌<◌, length, refl, sym, ◌∙◌, subst, arith}
use Rattle.lattice.specs.Tally.{start}
use Rattle.lattice.specs.Served.{Served, facts}
use Rattle.extensions.specs.Racks.{Leave}
use Rattle.extensions.specs.Onward.{reached_first, reached_walks, reached_next, some_leave}
use Rattle.search.specs.Racks.{Filled, filled_none, filled_leave, leave_ready, leave_room}
use Rattle.fused.specs.Bests.{drawn}
use Rattle.fused.specs.Splits.{Splitting, leave_low}
use Rattle.fused.proofs.bests.Drawable.best_racks.Goals.{Start}
use Rattle.fused.proofs.bests.Drawable.best_racks.Goals as goal

sizes : (c : goal.Start) → Served c.args.self.now.sizes.n c.args.self.now.sizes.r
sizes c = facts c.args.self.now.sizes.n c.args.self.now.sizes.r c.args.self.now.sizes.is_served

pub overflow_sub-sizes : goal.overflow_sub-sizes
overflow_sub-sizes c = (sizes (goal.at.overflow_sub-sizes c).Start).some_tile

pub size_start-from-requires : goal.size_start-from-requires
size_start-from-requires c =
    let f = sizes (goal.at.size_start-from-requires c).Start in
    record { letters = f.letters; tiles = omega (arith, f.tiles) }

pub extend_at-e-requires : goal.extend_at-e-requires
extend_at-e-requires c =
    let s = c.args.self.now.sizes in
    let from = c.size_start-from.ensures in
    rw c.requires.tally
    (record { served = s.is_served; from = omega (arith, from); below = omega (arith, from, some_leave s.n s.r s.is_served) })

pub loop-init : goal.loop-init
loop-init c =
    let a = c.args in
    let s = a.self.now.sizes in
    let from = c.size_start-from.ensures in
    let first = subst (λ (k : ℕ). Leave k s.r c.size_start-from.result c.extend_at-e.new.tally c.extend_at-e.result.stop c.extend_at-e.result.first) c.requires.tally c.extend_at-e.ensures.leave in
    record {
      low = omega (arith, from, s.starts, some_leave s.n s.r s.is_served);
      size = refl;
      filled = subst (λ (k : ℕ). Filled a.self.now.board.sheet.now a.self.now.board.leave.now (drawn s.leaves a.self.now.ways.now) s.n s.r k a.best.now a.best.now) (sym from) (filled_none _);
      reached = reached_first (first, c.extend_at-e.ensures.word);
    }

pub best_extended-requires : goal.best_extended-requires
best_extended-requires c =
    let a = c.args in
    let s = a.self.now.sizes in
    let l = c.loop.invariant in
    let d = subst (λ (k : ℕ). Splitting s.n s.r s.leaves a.self.now.board.sheet.now a.self.now.board.leave.now (length a.self.now.ways.now) k) (sym l.size) c.requires.tables in
    let at = l.reached.here (omega (arith, c.loop-test.true, s.starts)) in
    record { extending = leave_ready d.ready at; full_racks = leave_low d at; room = leave_room d.ready at; ways = d.full }

pub next_leave-e-requires : goal.next_leave-e-requires
next_leave-e-requires c =
    let s = c.args.self.now.sizes in
    let w = reached_walks c.loop.invariant.reached (omega (arith, c.loop-test.true, s.starts)) s.is_served in
    record { walking = w.0; word = w.1 }

pub loop-preserved : goal.loop-preserved
loop-preserved c =
    let s = c.args.self.now.sizes in
    let l = c.loop.invariant in
    let test = c.loop-test.true in
    let taken : c.loop.counter < start s.n s.r = omega (arith, test, s.starts) in
    let v = c.best_extended.ensures in
    let next = c.next_leave-e.ensures in
    record {
      low = omega (arith, test);
      size = v.size ∙ l.size;
      filled = filled_leave (sizes (goal.at.loop-preserved c).Start).some_letter l.filled (l.reached.here taken) v;
      reached = reached_next l.reached taken (next.onward, next.word);
    }

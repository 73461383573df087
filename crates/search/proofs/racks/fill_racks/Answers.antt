-- `search::racks::fill_racks` meets its contract. The loop's invariant: the racks that extend the leaves passed are written, and nothing else; the walk has reached the next.
-- Assumes nothing.
use mathlib.Core.Path.{refl, sym, ◌∙◌, subst}
use mathlib.Core.Bool.{true}
use Prim.Native.Nat.{ℕ, ◌<◌}
use native.Mathlib.Omega.{arith}
use lib.ListN.{length}
use Rattle.lattice.specs.Tally.{start}
use Rattle.lattice.specs.Served.{facts}
use Rattle.extensions.specs.Onward.{reached_first, reached_walks, reached_next, some_leave}
use Rattle.search.specs.Racks.{RacksReady, Filled, filled_none, filled_leave, leave_ready, leave_room}
use Rattle.search.proofs.racks.fill_racks.Goals as goal

pub extend_at-e-requires : goal.extend_at-e-requires
extend_at-e-requires c =
    let from = c.size_start-from.ensures in
    record { served = c.requires.sizes; from = omega (arith, from); below = omega (arith, from, some_leave (length c.args.tally.now) c.args.r c.requires.sizes) }

pub loop-init : goal.loop-init
loop-init c =
    let a = c.args in
    let n = length a.tally.now in
    let from = c.size_start-from.ensures in
    (omega (arith, from, some_leave (length c.args.tally.now) c.args.r c.requires.sizes), refl, subst (λ (k : ℕ). Filled a.sheet.now a.leave.now (λ i. true) n a.r k a.out.now a.out.now) (sym from) (filled_none _), reached_first (c.extend_at-e.ensures.leave, c.extend_at-e.ensures.word))

pub write_extensions-requires : goal.write_extensions-requires
write_extensions-requires c =
    let l = c.loop.invariant in
    let end = c.size_start-end.ensures in
    let at = l.3.here (omega (arith, c.loop-test.true, end)) in
    let d = subst (λ (k : ℕ). RacksReady (length c.args.tally.now) c.args.r c.args.sheet.now c.args.leave.now k) (sym l.1) c.requires in
    record { extending = leave_ready d at; room = leave_room d at }

pub next_leave-e-requires : goal.next_leave-e-requires
next_leave-e-requires c =
    let l = c.loop.invariant in
    let end = c.size_start-end.ensures in
    let at = reached_walks l.3 (omega (arith, c.loop-test.true, end)) c.requires.sizes in
    record { walking = at.0; word = at.1 }

pub loop-preserved : goal.loop-preserved
loop-preserved c =
    let l = c.loop.invariant in
    let end = c.size_start-end.ensures in
    let taken : c.loop.counter < start (length c.args.tally.now) c.args.r =
    omega (arith, c.loop-test.true, end) in
    let v = c.write_extensions.ensures in
    (omega (arith, taken), v.size ∙ l.1, filled_leave (facts _ c.args.r c.requires.sizes).some_letter l.2 (l.3.here taken) v, reached_next l.3 taken (c.next_leave-e.ensures.onward, c.next_leave-e.ensures.word))

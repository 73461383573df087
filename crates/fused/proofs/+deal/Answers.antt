-- The cycle of calls {deal}. Assumes nothing.
use mathlib.Core.Path.{refl, ap}
use Prim.Native.Nat.{ℕ, ◌+◌, ◌-◌, ◌≤◌}
use native.Mathlib.Numerals.{add-one}
use native.Mathlib.Omega.{arith}
use Rattle.fused.specs.Deal.{dealt_none}
use Rattle.fused.specs.Dealing.{leaf_room, letter_there, left_is, letter_small, deal_next, deal_turn, deal_starts, deal_done}
use Rattle.fused.proofs.+deal.Goals as goal

pub bounds-ways-w : goal.bounds-ways-w
bounds-ways-w t c = leaf_room c.requires c.if-rem-eq0.true

pub bounds-unseen-t : goal.bounds-unseen-t
bounds-unseen-t t c = letter_there c.requires c.if-rem-eq0.false

pub overflow_sub-rest : goal.overflow_sub-rest
overflow_sub-rest t c = omega (arith, left_is c.requires c.if-rem-eq0.false c.held-u.ensures.same)

pub overflow_sub-m-else-rem-eq0 : goal.overflow_sub-m-else-rem-eq0
overflow_sub-m-else-rem-eq0 t c = omega (arith, letter_there c.requires c.if-rem-eq0.false)

pub loop-c-init : goal.loop-c-init
loop-c-init t c =
    let d = c.requires in
    let some = c.if-rem-eq0.false in
    let here = c.held-u.ensures.same in
    (omega arith, omega (arith, c.saturating_sub-low.ensures, c.min-high.ensures, left_is d some here, d.enough), deal_starts d some here _ _ refl c.saturating_sub-low.ensures)

pub times-q-requires : goal.times-q-requires
times-q-requires t c =
    let d = c.requires in
    let low : c.args.rem - (c.args.left - c.held-u.result) ≤ c.loop-c.c = omega (arith, c.loop-c.invariant.0, c.saturating_sub-low.ensures) in
    let high : c.loop-c.c ≤ c.held-u.result = omega (arith, c.loop-c-test.true, c.min-high.ensures) in
    let top : c.loop-c.c ≤ c.args.rem = omega (arith, c.loop-c-test.true, c.min-high.ensures) in
    record { inside = high; pool = c.held-u.ensures.byte; rack = omega (arith, d.tiles); small = letter_small d c.if-rem-eq0.false c.held-u.ensures.same refl refl low high top }

pub overflow_add-v : goal.overflow_add-v
overflow_add-v t c =
    let low : c.args.rem - (c.args.left - c.held-u.result) ≤ c.loop-c.c = omega (arith, c.loop-c.invariant.0, c.saturating_sub-low.ensures) in
    let high : c.loop-c.c ≤ c.held-u.result = omega (arith, c.loop-c-test.true, c.min-high.ensures) in
    let top : c.loop-c.c ≤ c.args.rem = omega (arith, c.loop-c-test.true, c.min-high.ensures) in
    let next = deal_next c.requires c.if-rem-eq0.false c.held-u.ensures.same refl refl low high top refl refl in
    omega (arith, next.room, c.rank_step.ensures, c.well_formed)

pub deal-requires : goal.deal-requires
deal-requires t c =
    let d = c.requires in
    let some = c.if-rem-eq0.false in
    let low : c.args.rem - (c.args.left - c.held-u.result) ≤ c.loop-c.c = omega (arith, c.loop-c.invariant.0, c.saturating_sub-low.ensures) in
    let high : c.loop-c.c ≤ c.held-u.result = omega (arith, c.loop-c-test.true, c.min-high.ensures) in
    let top : c.loop-c.c ≤ c.args.rem = omega (arith, c.loop-c-test.true, c.min-high.ensures) in
    let next = deal_next d some c.held-u.ensures.same refl refl low high top (add-one c.args.t) (ap (λ (x : ℕ). c.args.w + x) c.rank_step.ensures) in
    (omega (arith, c.decreases, letter_there d some, d.few), rw c.loop-c.invariant.2.long next)

pub loop-c-preserved : goal.loop-c-preserved
loop-c-preserved t c =
    let low : c.args.rem - (c.args.left - c.held-u.result) ≤ c.loop-c.c = omega (arith, c.loop-c.invariant.0, c.saturating_sub-low.ensures) in
    let high : c.loop-c.c ≤ c.held-u.result = omega (arith, c.loop-c-test.true, c.min-high.ensures) in
    let top : c.loop-c.c ≤ c.args.rem = omega (arith, c.loop-c-test.true, c.min-high.ensures) in
    (omega (arith, c.loop-c.invariant.0), omega (arith, c.loop-c-test.true), deal_turn c.requires c.if-rem-eq0.false c.held-u.ensures.same refl refl low high top (add-one c.args.t) (ap (λ (x : ℕ). c.args.w + x) c.rank_step.ensures) (add-one c.loop-c.c) c.times-q.ensures c.loop-c.invariant.2 c.deal.ensures)

pub returns-then-rem-eq0 : goal.returns-then-rem-eq0
returns-then-rem-eq0 t c = rw c.if-rem-eq0.true (dealt_none _ _ _ _ (leaf_room c.requires c.if-rem-eq0.true))

pub returns-else-rem-eq0-2 : goal.returns-else-rem-eq0-2
returns-else-rem-eq0-2 t c =
    let d = c.requires in
    let some = c.if-rem-eq0.false in
    let here = c.held-u.ensures.same in
    let low : c.args.rem - (c.args.left - c.held-u.result) ≤ c.loop-c.c = omega (arith, c.loop-c.invariant.0, c.saturating_sub-low.ensures) in
    let high : c.loop-c.c ≤ c.held-u.result = omega (arith, c.loop-c-test.true, c.min-high.ensures) in
    let top : c.loop-c.c ≤ c.args.rem = omega (arith, c.loop-c-test.true, c.min-high.ensures) in
    deal_done d some here c.min-high.ensures (omega arith) (deal_turn d some here refl refl low high top (add-one c.args.t) (ap (λ (x : ℕ). c.args.w + x) c.rank_step.ensures) (add-one c.loop-c.c) c.times-q.ensures c.loop-c.invariant.2 c.deal.ensures)

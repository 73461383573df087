-- The proof of the cycle of calls {gain_from}. Assumes nothing.
use Rattle.std.proofs.Common.{ℕ, ◌+◌, ◌-◌, ◌≤◌, ◌<◌, ap, arith}
use Rattle.fused.specs.Deal.{step_room}
use Rattle.table_sums.specs.Gain.{apart_there, room_there, run_fits, run_done, next_fits, next_small, next_turn, all_turns}
use Rattle.table_sums.proofs.passes.+gain_from.Goals as goal

pub overflow_add-to : goal.overflow_add-to
overflow_add-to t c =
    let f = run_fits c.requires c.if-k-t.true c.choose-size.ensures (ap (λ (x : ℕ). c.args.v + x) c.rank_step.ensures) in
    omega (arith, f.1, c.well_formed)

pub gain_run-requires : goal.gain_run-requires
gain_run-requires t c = let f = run_fits c.requires c.if-k-t.true c.choose-size.ensures (ap (λ (x : ℕ). c.args.v + x) c.rank_step.ensures) in record { apart = f.0; room = f.1 }

pub overflow_add-a : goal.overflow_add-a
overflow_add-a t c =
    let g = c.requires in
    let few : c.loop-c.c ≤ c.args.rem = omega arith in
    omega (arith, step_room (c.args.n - c.args.k - 1) c.args.rem c.loop-c.c few, c.rank_step-in-loop-c.ensures, apart_there g, room_there g, c.well_formed)

pub overflow_add-b : goal.overflow_add-b
overflow_add-b t c =
    let few : c.loop-c.c < c.args.rem + 1 = omega (arith, c.loop-c-test.true) in
    let f = next_small c.requires c.if-k-t.false few (ap (λ (x : ℕ). c.args.w + x) c.rank_step-in-loop-c.ensures) (ap (λ (x : ℕ). c.args.v + x) c.rank_step-in-loop-c-2.ensures) in
    omega (arith, f.1, c.well_formed)

pub gain_from-requires : goal.gain_from-requires
gain_from-requires t c =
    let g = c.requires in
    let few : c.loop-c.c < c.args.rem + 1 = omega (arith, c.loop-c-test.true) in
    let f = next_fits g c.if-k-t.false few (ap (λ (x : ℕ). c.args.w + x) c.rank_step-in-loop-c.ensures) (ap (λ (x : ℕ). c.args.v + x) c.rank_step-in-loop-c-2.ensures) in
    (omega (arith, c.decreases, g.from, c.if-k-t.false), rw c.loop-c.invariant.1.long f)

pub loop-c-preserved : goal.loop-c-preserved
loop-c-preserved t c =
    let few : c.loop-c.c < c.args.rem + 1 = omega (arith, c.loop-c-test.true) in
    (omega arith, next_turn c.requires c.if-k-t.false few (ap (λ (x : ℕ). c.args.w + x) c.rank_step-in-loop-c.ensures) (ap (λ (x : ℕ). c.args.v + x) c.rank_step-in-loop-c-2.ensures) c.loop-c.invariant.1 c.gain_from.ensures)

pub returns-then-k-t : goal.returns-then-k-t
returns-then-k-t t c = run_done c.requires c.if-k-t.true c.choose-size.ensures (ap (λ (x : ℕ). c.args.v + x) c.rank_step.ensures) c.gain_run.ensures

pub returns-else-k-t-2 : goal.returns-else-k-t-2
returns-else-k-t-2 t c =
    let few : c.loop-c.c < c.args.rem + 1 = omega (arith, c.loop-c-test.true) in
    all_turns c.requires c.if-k-t.false {c = c.loop-c.c + 1} (omega arith) (next_turn c.requires c.if-k-t.false few (ap (λ (x : ℕ). c.args.w + x) c.rank_step-in-loop-c.ensures) (ap (λ (x : ℕ). c.args.v + x) c.rank_step-in-loop-c-2.ensures) c.loop-c.invariant.1 c.gain_from.ensures)

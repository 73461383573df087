-- the letters before t are done
use Rattle.std.proofs.Common.{◌≡◌, ℕ, suc, ◌+◌, ◌-◌, ◌<◌, ◌≤◌, length, get_or, drop, ap, ◌∙◌, arith}
use Rattle.lattice.specs.Tally.{total, within}
use Rattle.lattice.specs.Step.{total_drop}
use Rattle.scatter.specs.Offsets.{step_at, taken_none_suc, offset, offset_whole}
use Rattle.scatter.specs.Plan.{lasting_start, lasting_next, step_read, offset_read, whole_read, none_fits, offset_fits, whole_fits, total_drop_le}
use Rattle.scatter.proofs.plan.Last.fill.Goals.{After-rank_step, After-rank_step-in-loop-t, After-rank_step-none, In-loop-t}
use Rattle.scatter.proofs.plan.Last.fill.Goals as goal

-- what is known in a turn
module _ (c : goal.In-loop-t) where
  abbrev at : ℕ
  at = c.loop-t.t

  below : at < length c.args.tally.now
  below = c.loop-t-test.true

  after_is : length c.args.tally.now - 1 - at ≡ length c.args.tally.now - suc at
  after_is = omega arith

  left_is : get_or c.args.rest.now at 0 + c.args.s ≡ total (drop at c.args.tally.now) + c.args.s
  left_is = let l = below in ap (λ (x : ℕ). x + c.args.s) (c.requires.tails.rest at (omega arith))

  tail_is : get_or c.args.tail.now (at + 1) 0 ≡ within (drop (at + 1) c.args.tally.now)
  tail_is = let l = below in c.requires.tails.tail (at + 1) (omega arith)

  own_fits : get_or c.args.tally.now at 0 ≤ total (drop at c.args.tally.now)
  own_fits = omega (arith, total_drop c.args.tally.now at below)

  rest_fits : total (drop at c.args.tally.now) + c.args.s ≤ 16
  rest_fits = omega (arith, total_drop_le c.args.tally.now at, c.requires.tiles)

step_is : (c : goal.After-rank_step) → c.rank_step.result ≡ step_at c.args.tally.now c.loop-t.t c.args.s (get_or c.args.tally.now c.loop-t.t 0 + 1)
step_is c =
    let d = (goal.at.After-rank_step c).In-loop-t in
    c.rank_step.ensures ∙ step_read c.args.s c.args.tally.now c.loop-t.t (after_is d) (left_is d) (ap (λ (x : ℕ). x + 1) c.from-own.ensures)

step2_is : (c : goal.After-rank_step-in-loop-t) → c.rank_step-in-loop-t.result ≡ step_at c.args.tally.now c.loop-t.t c.args.s (get_or c.args.tally.now c.loop-t.t 0 + c.args.s)
step2_is c =
    let d = (goal.at.After-rank_step-in-loop-t c).In-loop-t in
    c.rank_step-in-loop-t.ensures ∙ step_read c.args.s c.args.tally.now c.loop-t.t (after_is d) (left_is d) (ap (λ (x : ℕ). x + c.args.s) c.from-own.ensures)

step3_is : (c : goal.After-rank_step-none) → c.rank_step-none.result ≡ step_at c.args.tally.now c.loop-t.t c.args.s (get_or c.args.tally.now c.loop-t.t 0)
step3_is c =
    let d = (goal.at.After-rank_step-none c).In-loop-t in
    c.rank_step-none.ensures ∙ step_read c.args.s c.args.tally.now c.loop-t.t (after_is d) (left_is d) c.from-own.ensures

-- the rack's gain with one of the letter kept, and with all that are left
once_is : (c : goal.After-rank_step) → c.loop-t.none + c.rank_step.result ≡ offset c.args.s 1 c.args.tally.now c.loop-t.t
once_is c = offset_read c.requires.letters c.loop-t.invariant 1 (step_is c)

whole_is : (c : goal.After-rank_step-in-loop-t) → c.loop-t.none + c.rank_step-in-loop-t.result + get_or c.args.tail.now (c.loop-t.t + 1) 0 ≡ offset_whole c.args.s c.args.tally.now c.loop-t.t
whole_is c = whole_read c.requires.letters c.loop-t.invariant (step2_is c) (tail_is (goal.at.After-rank_step-in-loop-t c).In-loop-t)

pub loop-t-init : goal.loop-t-init
loop-t-init c = lasting_start _ _ _ (omega arith) (omega arith) (omega arith)

pub overflow_add-left : goal.overflow_add-left
overflow_add-left c =
    let d = (goal.at.overflow_add-left c).In-loop-t in
    omega (arith, left_is d, rest_fits d)

pub rank_step-requires : goal.rank_step-requires
rank_step-requires c =
    let d = (goal.at.rank_step-requires c).In-loop-t in
    record { letters = omega (arith, c.requires.letters); tiles = omega (arith, left_is d, rest_fits d); inside = omega (arith, left_is d, own_fits d, c.from-own.ensures, c.requires.some) }

pub overflow_add-once : goal.overflow_add-once
overflow_add-once c =
    omega (arith, once_is (goal.at.overflow_add-once c).After-rank_step, offset_fits c.args.s c.args.tally.now c.requires.letters c.requires.tiles c.loop-t.t c.loop-t-test.true 1 c.requires.some)

pub rank_step-requires-in-loop-t : goal.rank_step-requires-in-loop-t
rank_step-requires-in-loop-t c =
    let d = (goal.at.rank_step-requires-in-loop-t c).In-loop-t in
    record { letters = omega (arith, c.requires.letters); tiles = omega (arith, left_is d, rest_fits d); inside = omega (arith, left_is d, own_fits d, c.from-own.ensures) }

pub overflow_add-whole : goal.overflow_add-whole
overflow_add-whole c =
    omega (arith, whole_is (goal.at.overflow_add-whole c).After-rank_step-in-loop-t, whole_fits c.args.s c.args.tally.now c.requires.letters c.requires.tiles c.loop-t.t c.loop-t-test.true)

pub overflow_add-whole-in-loop-t-2 : goal.overflow_add-whole-in-loop-t-2
overflow_add-whole-in-loop-t-2 c =
    omega (arith, whole_is (goal.at.overflow_add-whole-in-loop-t-2 c).After-rank_step-in-loop-t, whole_fits c.args.s c.args.tally.now c.requires.letters c.requires.tiles c.loop-t.t c.loop-t-test.true)

pub rank_step-none-requires : goal.rank_step-none-requires
rank_step-none-requires c =
    let d = (goal.at.rank_step-none-requires c).In-loop-t in
    record { letters = omega (arith, c.requires.letters); tiles = omega (arith, left_is d, rest_fits d); inside = omega (arith, left_is d, own_fits d, c.from-own.ensures) }

pub overflow_add-none : goal.overflow_add-none
overflow_add-none c =
    omega (arith, step3_is (goal.at.overflow_add-none c).After-rank_step-none, c.loop-t.invariant.none_is, taken_none_suc c.args.s c.args.tally.now c.loop-t.t, none_fits c.args.s c.args.tally.now c.requires.letters c.requires.tiles (suc c.loop-t.t) c.loop-t-test.true)

pub loop-t-preserved : goal.loop-t-preserved
loop-t-preserved c =
    let s = goal.at.loop-t-preserved c in
    lasting_next c.requires.letters c.loop-t.invariant c.loop-t-test.true (ap (λ (x : ℕ). c.loop-t.none + x) (step3_is s.After-rank_step-none)) (once_is s.After-rank_step) (whole_is s.After-rank_step-in-loop-t)

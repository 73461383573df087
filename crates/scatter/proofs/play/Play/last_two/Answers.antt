-- what is still to be offered
use Rattle.std.proofs.Common.{◌≡◌, ℕ, suc, ◌+◌, ◌-◌, ◌%◌, ◌^◌, ◌<◌, ◌≤◌, List, length, get_or, ℤ, pos, ◌+ℤ◌, ap, refl, ◌∙◌, arith}
use Rattle.lattice.specs.Step.{step}
use Rattle.maxima.specs.Maxima.{raise}
use Rattle.scatter.specs.Raise.{raise_all, length_raise_all}
use Rattle.scatter.specs.Last.{so_far_start, so_far_end, so_far_none, so_far_two, so_far_two_one, ready_once, whole_leave, whole_best, whole_lands, with_lands, with_room}
use Rattle.scatter.specs.Offsets.{taken_none, offset, offset_whole, offers_at, less_wrapped}
use Rattle.scatter.specs.Plan.{none_fits}
use Rattle.scatter.specs.Walk.{tiles_left}
use Rattle.scatter.proofs.play.Play.last_two.Goals.{In-loop-u, then-self-u-gt0+then-self-u-gt1, then-self-u-gt0+else-self-u-gt1, else-self-u-gt0}
use Rattle.scatter.proofs.play.Play.last_two.Goals as goal

pub loop-u-init : goal.loop-u-init
loop-u-init c =
    so_far_start 2 _ _ _ _ _ _ _ _ c.requires.letters (tiles_left c.requires c.args.self.now.tiles) c.requires.room

-- what is known in a turn
module _ (c : goal.In-loop-u) where
  abbrev at : ℕ
  at = c.loop-u.u

  below : at < length c.args.self.now.tally.now
  below = c.loop-u-test.true

  after : length c.args.self.now.tally.now - 1 - at ≡ length c.args.self.now.tally.now - suc at
  after = omega arith

  best_fits : length c.args.best.now < 2 ^ 64
  best_fits = omega arith

  none_is : get_or c.args.self.now.plan.now.two.none c.args.t 0 ≡ taken_none 2 c.args.self.now.tally.now c.args.t
  none_is = (c.args.self.now.planned.twos (omega (arith, c.requires.left))).none c.args.t c.requires.letters

  low : taken_none 2 c.args.self.now.tally.now c.args.t < 2 ^ 64
  low = none_fits 2 c.args.self.now.tally.now c.args.self.now.letters (omega (arith, c.requires.left, c.args.self.now.tiles)) c.args.t c.requires.letters

  -- the ranks with one of the letter kept, and with two
  abbrev once_rank : ℕ
  once_rank = c.args.k + step (length c.args.self.now.tally.now - suc at) 2 1

  abbrev rest_rank : ℕ
  rest_rank = c.args.r + (offset 2 1 c.args.self.now.tally.now at - taken_none 2 c.args.self.now.tally.now c.args.t)

  abbrev twice_rank : ℕ
  twice_rank = c.args.k + step (length c.args.self.now.tally.now - suc at) 2 2

  abbrev rack_rank : ℕ
  rack_rank = c.args.r + (offset_whole 2 c.args.self.now.tally.now at - taken_none 2 c.args.self.now.tally.now c.args.t)

  once_below : once_rank ≤ length c.args.self.now.leave.now
  once_below = let a = (with_room c.loop-u.invariant below 1 (omega arith)).room.in_leave in omega arith

  twice_below : twice_rank < length c.args.self.now.leave.now
  twice_below = whole_leave c.loop-u.invariant below

  rack_below : rack_rank < length c.loop-u.best
  rack_below = whole_best c.loop-u.invariant below

  once_is : {m : ℕ} → m ≡ step (length c.args.self.now.tally.now - 1 - at) 2 1 → c.args.k + m ≡ once_rank
  once_is e = ap (λ (m : ℕ). c.args.k + m) (e ∙ ap (λ (m : ℕ). step m 2 1) after)

  twice_is : {m : ℕ} → m ≡ step (length c.args.self.now.tally.now - 1 - at) 2 2 → c.args.k + m ≡ twice_rank
  twice_is e = ap (λ (m : ℕ). c.args.k + m) (e ∙ ap (λ (m : ℕ). step m 2 2) after)

  abbrev base : ℕ
  base = (c.args.r + (2 ^ 64 - get_or c.args.self.now.plan.now.two.none c.args.t 0)) % 2 ^ 64

  rest_is : (base + get_or c.args.self.now.plan.now.two.once at 0) % 2 ^ 64 ≡ rest_rank
  rest_is =
      with_lands c.loop-u.invariant below best_fits base (less_wrapped _ _ c.ranges.r.fits (omega (arith, none_is, low))) none_is refl 1 (omega arith) ((c.args.self.now.planned.twos (omega (arith, c.requires.left))).once at below)

  rack_is : (base + get_or c.args.self.now.plan.now.two.whole at 0) % 2 ^ 64 ≡ rack_rank
  rack_is =
      whole_lands c.loop-u.invariant below best_fits base (less_wrapped _ _ c.ranges.r.fits (omega (arith, none_is, low))) none_is refl ((c.args.self.now.planned.twos (omega (arith, c.requires.left))).whole at below)

  -- what the last tile's offers make of the table
  raised : {once : ℕ} {best : List ℤ} → once ≡ once_rank
      → best ≡ raise_all c.loop-u.best (offers_at c.args.self.now.worth c.args.self.now.leave.now c.args.self.now.tally.now c.args.self.now.caps.now once ((base + get_or c.args.self.now.plan.now.two.once at 0) % 2 ^ 64) (at + 1) 1)
      → best ≡ raise_all c.loop-u.best (offers_at c.args.self.now.worth c.args.self.now.leave.now c.args.self.now.tally.now c.args.self.now.caps.now once_rank rest_rank (at + 1) 1)
  raised e g = g ∙ (λ i. raise_all c.loop-u.best (offers_at c.args.self.now.worth c.args.self.now.leave.now c.args.self.now.tally.now c.args.self.now.caps.now (e i) (rest_is i) (at + 1) 1))

pub overflow_add-once : goal.overflow_add-once
overflow_add-once c =
    let d = (goal.at.overflow_add-once c).In-loop-u in
    omega (arith, once_is d c.rank_step.ensures, once_below d)

pub last_one-requires : goal.last_one-requires
last_one-requires c =
    let d = (goal.at.last_one-requires c).In-loop-u in
    ready_once c.requires c.loop-u.invariant (below d) (once_is d c.rank_step.ensures) (rest_is d)

pub overflow_add-twice : goal.overflow_add-twice
overflow_add-twice c =
    let d = (goal.at.overflow_add-twice c).In-loop-u in
    omega (arith, twice_is d c.rank_step-then-self-u-gt1.ensures, twice_below d, c.well_formed)

pub offer-requires : goal.offer-requires
offer-requires c =
    let d = (goal.at.offer-requires c).In-loop-u in
    let long = ap length c.last_one.ensures ∙ length_raise_all _ _ in
    record { in_leave = omega (arith, twice_is d c.rank_step-then-self-u-gt1.ensures, twice_below d); in_best = omega (arith, rack_is d, rack_below d, long) }

pub loop-u-preserved : goal.loop-u-preserved
loop-u-preserved c =
    let d = (goal.at.loop-u-preserved c).In-loop-u in
    let inv = c.loop-u.invariant in
    let same = c.args.self.now.same in
    elim c.if-self-u-gt0.branch [
      | then-self-u-gt0+then-self-u-gt1 w ↦
          so_far_two inv same (below d) (raised d (once_is d w.rank_step.ensures) w.last_one.ensures) w.if-self-u-gt1.true
          (w.best-is ∙ w.offer.ensures ∙ (λ i. raise w.last_one.new.best (rack_is d i) (c.args.self.now.worth +ℤ get_or c.args.self.now.leave.now (twice_is d w.rank_step-then-self-u-gt1.ensures i) (pos 0))))
      | then-self-u-gt0+else-self-u-gt1 w ↦
          so_far_two_one inv same (below d) (w.best-is ∙ raised d (once_is d w.rank_step.ensures) w.last_one.ensures) (omega arith)
      | else-self-u-gt0 w ↦ so_far_none inv (below d) same (omega arith) w.best-is
    ]

pub returns : goal.returns
returns c =
    so_far_end c.loop-u.invariant c.args.self.now.same (omega arith) c.loop-u-test.false

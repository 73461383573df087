-- what is still to be offered
use Rattle.std.proofs.Common.{◌≡◌, ℕ, suc, ◌+◌, ◌-◌, ◌%◌, ◌^◌, ◌<◌, length, get_or, pos, ◌+ℤ◌, ap, refl, ◌∙◌, arith}
use Rattle.lattice.specs.Step.{step}
use Rattle.maxima.specs.Maxima.{raise}
use Rattle.scatter.specs.Last.{so_far_start, so_far_end, so_far_none, so_far_one, whole_leave, whole_best, whole_lands}
use Rattle.scatter.specs.Offsets.{taken_none, offset_whole, less_wrapped}
use Rattle.scatter.specs.Plan.{none_fits}
use Rattle.scatter.specs.Walk.{tiles_left}
use Rattle.scatter.proofs.play.Play.last_one.Goals.{In-loop-u, then-self-u-gt0, else-self-u-gt0}
use Rattle.scatter.proofs.play.Play.last_one.Goals as goal

pub loop-u-init : goal.loop-u-init
loop-u-init c =
    so_far_start 1 _ _ _ _ _ _ _ _ c.requires.letters (tiles_left c.requires c.args.self.now.tiles) c.requires.room

-- what is known in a turn
module _ (c : goal.In-loop-u) where
  abbrev at : ℕ
  at = c.loop-u.u

  below : at < length c.args.self.now.tally.now
  below = c.loop-u-test.true

  after : length c.args.self.now.tally.now - 1 - at ≡ length c.args.self.now.tally.now - suc at
  after = omega arith

  best_fits : length c.args.best.now < 2 ^ 64
  best_fits = omega arith

  none_is : get_or c.args.self.now.plan.now.one.none c.args.t 0 ≡ taken_none 1 c.args.self.now.tally.now c.args.t
  none_is = (c.args.self.now.planned.ones (omega (arith, c.requires.left))).none c.args.t c.requires.letters

  low : taken_none 1 c.args.self.now.tally.now c.args.t < 2 ^ 64
  low = none_fits 1 c.args.self.now.tally.now c.args.self.now.letters (omega (arith, c.requires.left, c.args.self.now.tiles)) c.args.t c.requires.letters

  abbrev kept_rank : ℕ
  kept_rank = c.args.k + step (length c.args.self.now.tally.now - suc at) 1 1

  kept_below : kept_rank < length c.args.self.now.leave.now
  kept_below = whole_leave c.loop-u.invariant below

  kept_is : {m : ℕ} → m ≡ step (length c.args.self.now.tally.now - 1 - at) 1 1 → c.args.k + m ≡ kept_rank
  kept_is e = ap (λ (m : ℕ). c.args.k + m) (e ∙ ap (λ (m : ℕ). step m 1 1) after)

  abbrev rack_rank : ℕ
  rack_rank = c.args.r + (offset_whole 1 c.args.self.now.tally.now at - taken_none 1 c.args.self.now.tally.now c.args.t)

  rack_below : rack_rank < length c.loop-u.best
  rack_below = whole_best c.loop-u.invariant below

  rack_is : ((c.args.r + (2 ^ 64 - get_or c.args.self.now.plan.now.one.none c.args.t 0)) % 2 ^ 64 + get_or c.args.self.now.plan.now.one.whole at 0) % 2 ^ 64 ≡ rack_rank
  rack_is =
      whole_lands c.loop-u.invariant below best_fits _ (less_wrapped _ _ c.ranges.r.fits (omega (arith, none_is, low))) none_is refl ((c.args.self.now.planned.ones (omega (arith, c.requires.left))).whole at below)

pub overflow_add-kept : goal.overflow_add-kept
overflow_add-kept c =
    let d = (goal.at.overflow_add-kept c).In-loop-u in
    omega (arith, kept_is d c.rank_step.ensures, kept_below d)

pub offer-requires : goal.offer-requires
offer-requires c =
    let d = (goal.at.offer-requires c).In-loop-u in
    record { in_leave = omega (arith, kept_is d c.rank_step.ensures, kept_below d); in_best = omega (arith, rack_is d, rack_below d) }

pub loop-u-preserved : goal.loop-u-preserved
loop-u-preserved c =
    let d = (goal.at.loop-u-preserved c).In-loop-u in
    let same = c.args.self.now.same in
    elim c.if-self-u-gt0.branch [
      | then-self-u-gt0 w ↦
          so_far_one c.loop-u.invariant same (below d) w.if-self-u-gt0.true
          (w.best-is ∙ w.offer.ensures ∙ (λ i. raise c.loop-u.best (rack_is d i) (c.args.self.now.worth +ℤ get_or c.args.self.now.leave.now (kept_is d w.rank_step.ensures i) (pos 0))))
      | else-self-u-gt0 w ↦ so_far_none c.loop-u.invariant (below d) same (omega arith) w.best-is
    ]

pub returns : goal.returns
returns c =
    so_far_end c.loop-u.invariant c.args.self.now.same (omega arith) c.loop-u-test.false

-- No letter with fewer than m letters after it has a tile yet, and so many tiles and tallies are left (`Filling`). Assumes nothing.
use Rattle.std.proofs.Common.{◌≡◌, ◌-◌, ◌≤◌, length, replicate, refl, ap, ◌∙◌, inl, inr, arith}
use Rattle.lattice.specs.Step.{step}
use Rattle.lattice.specs.Tally.{total}
use Rattle.lattice.proofs.Counts.{get_or_le_total, total_zeros}
use Rattle.lattice.proofs.Filling.{filling_starts, filling_more, filling_ends, last_step}
use Rattle.lattice.proofs.fill.Goals.{Left-loop-left, else-loop-left-test, then-loop-left-test+else-over-gt0}
use Rattle.lattice.proofs.fill.Goals as goal

pub loop-left-init : goal.loop-left-init
loop-left-init c =
    let z : c.fill.new.self ≡ replicate (length c.args.out.now) 0 = c.fill.ensures.after (λ y e. e) in
    let l : length c.fill.new.self ≡ length c.args.out.now = c.fill.ensures.len in
    filling_starts (length c.fill.new.self) c.args.s c.args.rest c.fill.new.self refl (rw l c.requires.letter) (ap total z ∙ total_zeros _) (rw l c.requires.inside)

pub overflow_add-out : goal.overflow_add-out
overflow_add-out c = omega (arith, get_or_le_total c.loop-left.out (length c.fill.new.self - 1 - c.next_letter-b.result.after))

pub loop-left-preserved : goal.loop-left-preserved
loop-left-preserved c =
    let l = c.loop-left in
    let b = c.next_letter-b in
    filling_more (length c.fill.new.self) c.args.s c.args.rest l.out l.m l.left l.over l.invariant b.result.after b.result.ways (omega arith) b.ensures

-- after the loop one letter takes all tiles that are left
ended : (c : goal.Left-loop-left) → (c.loop-left.over ≤ c.loop-left.m) × (step c.loop-left.over c.loop-left.left c.loop-left.left ≡ c.loop-left.over)
ended c =
    let l = c.loop-left in
    last_step l.m l.left l.over l.invariant.small (elim c.loop-left-test.branch [
      | then-loop-left-test+else-over-gt0 w ↦ inr (omega (arith, w.if-over-gt0.false))
      | else-loop-left-test w ↦ inl w.loop-left-test.false
    ])

pub overflow_sub-i-3 : goal.overflow_sub-i-3
overflow_sub-i-3 c = omega (arith, (ended c).0)

pub overflow_add-out-2 : goal.overflow_add-out-2
overflow_add-out-2 c = omega (arith, get_or_le_total c.loop-left.out (length c.fill.new.self - 1 - c.loop-left.over))

pub returns : goal.returns
returns c =
    let l = c.loop-left in
    let e = filling_ends (length c.fill.new.self) c.args.s c.args.rest l.out l.m l.left l.over l.invariant (ended (goal.at.returns c).Left-loop-left) in
    record { tiles = e.0; place = e.1 }

-- the measure is the number of letters left; the table is raised by the turns so far
use Rattle.std.proofs.Common.{◌≡◌, ℕ, suc, ◌+◌, ◌-◌, ◌<◌, ◌≤◌, min, List, length, get_or, drop, ℤ, sym, ap, ◌∙◌, arith}
use Rattle.lattice.specs.Tally.{total, within}
use Rattle.lattice.specs.Step.{step}
use Rattle.scatter.specs.Raise.{raise_all}
use Rattle.scatter.specs.Offsets.{step_at, step_at_is, offers_at}
use Rattle.scatter.specs.Walk.{Turned, some_letter, turned_none, turned_long, turned_more, turned_all, walk_whole, walk_few, rack_below, tiles_left, own_below, ready_with, ready_none, with_below, none_below}
use Rattle.scatter.proofs.play.Play.+walk.Goals.{Then-s-eq0, Then-s-self, After-min-most, In-loop-c, After-rank_step-then-s-self, else-loop-c-test, then-loop-c-test+else-c-most}
use Rattle.scatter.proofs.play.Play.+walk.Goals as goal

-- no tile is left to keep
tail_is : (m : ℕ) → (c : goal.Then-s-eq0 m) → c.args.r + get_or c.args.self.now.plan.now.tail c.args.t 0 ≡ c.args.r + within (drop c.args.t c.args.self.now.tally.now)
tail_is m c = ap (λ (x : ℕ). c.args.r + x) (c.args.self.now.planned.sums.tails.tail c.args.t c.requires.letters)

below : (m : ℕ) → (c : goal.Then-s-eq0 m) → (c.args.k < length c.args.self.now.leave.now) × (c.args.r + get_or c.args.self.now.plan.now.tail c.args.t 0 < length c.args.best.now)
below m c = rack_below c.requires c.if-s-eq0.true (tail_is m c)

-- there is a letter
module _ (m : ℕ) (c : goal.Then-s-self m) where
  letter : c.args.t < length c.args.self.now.tally.now
  letter =
      let e = c.args.self.now.planned.sums.room c.args.t c.requires.letters in
      let l = c.if-s-self.true in
      let z = c.if-s-eq0.false in
      rw c.args.self.now.same (some_letter c.args.self.now.caps.now c.args.t (omega arith))

  after_is : length c.args.self.now.tally.now - 1 - c.args.t ≡ length c.args.self.now.tally.now - suc c.args.t
  after_is = omega arith

  left_is : get_or c.args.self.now.plan.now.rest c.args.t 0 + c.args.s ≡ total (drop c.args.t c.args.self.now.tally.now) + c.args.s
  left_is = ap (λ (x : ℕ). x + c.args.s) (c.args.self.now.planned.sums.tails.rest c.args.t c.requires.letters)

  few : total (drop c.args.t c.args.self.now.tally.now) + c.args.s ≤ 15
  few = tiles_left c.requires c.args.self.now.tiles

  own_fits : get_or c.args.self.now.tally.now c.args.t 0 ≤ total (drop c.args.t c.args.self.now.tally.now)
  own_fits = own_below c.requires letter

-- at the loop: what the locals are
module _ (m : ℕ) (c : goal.After-min-most m) where
  own_is : c.from-own.result ≡ get_or c.args.self.now.tally.now c.args.t 0
  own_is = c.from-own.ensures

  most_is : c.min-most.result ≡ min (get_or c.args.self.now.caps.now c.args.t 0) c.args.s
  most_is = c.min-most.ensures ∙ ap (λ (x : ℕ). min x c.args.s) c.from.ensures

  -- the gains with none of the letter kept, and with x
  next_is : {e : ℕ} → e ≡ step (length c.args.self.now.tally.now - 1 - c.args.t) (get_or c.args.self.now.plan.now.rest c.args.t 0 + c.args.s) c.from-own.result
      → c.args.r + e ≡ c.args.r + step_at c.args.self.now.tally.now c.args.t c.args.s (get_or c.args.self.now.tally.now c.args.t 0)
  next_is e =
      let d = (goal.at.After-min-most m c).Then-s-self in
      ap (λ (x : ℕ). c.args.r + x) (e ∙ (λ i. step (after_is m d i) (left_is m d i) (own_is i)) ∙ sym (step_at_is _ _ _ _))

  kept_is : (x : ℕ) {e : ℕ} → e ≡ step (length c.args.self.now.tally.now - 1 - c.args.t) c.args.s x → c.args.k + e ≡ c.args.k + step (length c.args.self.now.tally.now - suc c.args.t) c.args.s x
  kept_is x e =
      let d = (goal.at.After-min-most m c).Then-s-self in
      ap (λ (y : ℕ). c.args.k + y) (e ∙ ap (λ (y : ℕ). step y c.args.s x) (after_is m d))

  rack_is : (x : ℕ) {e : ℕ} → e ≡ step (length c.args.self.now.tally.now - 1 - c.args.t) (get_or c.args.self.now.plan.now.rest c.args.t 0 + c.args.s) (c.from-own.result + x)
      → c.args.r + e ≡ c.args.r + step_at c.args.self.now.tally.now c.args.t c.args.s (get_or c.args.self.now.tally.now c.args.t 0 + x)
  rack_is x e =
      let d = (goal.at.After-min-most m c).Then-s-self in
      ap (λ (y : ℕ). c.args.r + y) (e ∙ (λ i. step (after_is m d i) (left_is m d i) (own_is i + x)) ∙ sym (step_at_is _ _ _ _))

  -- the turn with x of it kept
  turn : (x : ℕ) → 1 ≤ x → {best best' : List ℤ} → Turned c.args.self.now.worth c.args.self.now.leave.now c.args.best.now c.args.self.now.tally.now c.args.self.now.caps.now c.args.k c.args.r c.args.t c.args.s best (x - 1)
      → {e f : ℕ} → e ≡ step (length c.args.self.now.tally.now - 1 - c.args.t) c.args.s x → f ≡ step (length c.args.self.now.tally.now - 1 - c.args.t) (get_or c.args.self.now.plan.now.rest c.args.t 0 + c.args.s) (c.from-own.result + x)
      → best' ≡ raise_all best (offers_at c.args.self.now.worth c.args.self.now.leave.now c.args.self.now.tally.now c.args.self.now.caps.now (c.args.k + e) (c.args.r + f) (c.args.t + 1) (c.args.s - x))
      → Turned c.args.self.now.worth c.args.self.now.leave.now c.args.best.now c.args.self.now.tally.now c.args.self.now.caps.now c.args.k c.args.r c.args.t c.args.s best' x
  turn x l {best} here e f g =
      turned_more x l here (g ∙ (λ i. raise_all best (offers_at c.args.self.now.worth c.args.self.now.leave.now c.args.self.now.tally.now c.args.self.now.caps.now (kept_is x e i) (rack_is x f i) (c.args.t + 1) (c.args.s - x))))

-- in a turn
turn_fits : (m : ℕ) → (c : goal.In-loop-c m) → c.loop-c.c ≤ c.args.s
turn_fits m c =
    let l = c.loop-c-test.true in
    let e = most_is m (goal.at.In-loop-c m c).After-min-most in
    omega arith

-- all turns are done
turned : (m : ℕ) → (c : goal.After-rank_step-then-s-self m) → Turned c.args.self.now.worth c.args.self.now.leave.now c.args.best.now c.args.self.now.tally.now c.args.self.now.caps.now c.args.k c.args.r c.args.t c.args.s c.loop-c-test.best c.min-most.result
turned m c =
    let a = (goal.at.After-rank_step-then-s-self m c).After-min-most in
    let inv = c.loop-c.invariant in
    elim c.loop-c-test.branch [
      | else-loop-c-test w ↦
          let e : c.loop-c.c - 1 ≡ c.min-most.result = omega (arith, w.loop-c-test.false, inv.1) in
          rw (w.best-is, ← e) inv.2
      | then-loop-c-test+else-c-most w ↦
          let e : c.loop-c.c ≡ c.min-most.result = omega (arith, w.loop-c-test.true) in
          rw (w.best-is, ← e) (turn m a c.loop-c.c inv.0 inv.2 w.rank_step.ensures w.rank_step-in-loop-c.ensures w.walk.ensures)
    ]

pub overflow_add-r : goal.overflow_add-r
overflow_add-r m c = omega (arith, (below m (goal.at.overflow_add-r m c).Then-s-eq0).1, c.well_formed)

pub offer-requires : goal.offer-requires
offer-requires m c =
    let e = below m (goal.at.offer-requires m c).Then-s-eq0 in
    record { in_leave = e.0; in_best = e.1 }

pub overflow_sub-after : goal.overflow_sub-after
overflow_sub-after m c = omega (arith, letter m c)

pub overflow_sub-after-then-s-self : goal.overflow_sub-after-then-s-self
overflow_sub-after-then-s-self m c = omega (arith, letter m c)

pub bounds-self-t-then-s-self : goal.bounds-self-t-then-s-self
bounds-self-t-then-s-self m c = letter m (goal.at.bounds-self-t-then-s-self m c).Then-s-self

pub overflow_add-left : goal.overflow_add-left
overflow_add-left m c =
    let d = (goal.at.overflow_add-left m c).Then-s-self in
    omega (arith, left_is m d, few m d)

pub bounds-self-t-then-s-self-3 : goal.bounds-self-t-then-s-self-3
bounds-self-t-then-s-self-3 m c = omega (arith, letter m (goal.at.bounds-self-t-then-s-self-3 m c).Then-s-self, c.args.self.now.same)

pub loop-c-init : goal.loop-c-init
loop-c-init m c = (omega arith, omega arith, turned_none _ _ _ _ _ _ _ _ _)

pub overflow_add-kept : goal.overflow_add-kept
overflow_add-kept m c =
    let s = goal.at.overflow_add-kept m c in
    omega (arith, kept_is m s.After-min-most c.loop-c.c c.rank_step.ensures, with_below c.requires (letter m s.Then-s-self) c.loop-c.c (turn_fits m s.In-loop-c), c.well_formed)

pub rank_step-requires-in-loop-c : goal.rank_step-requires-in-loop-c
rank_step-requires-in-loop-c m c =
    let s = goal.at.rank_step-requires-in-loop-c m c in
    let d = s.Then-s-self in
    record {
      letters = omega (arith, c.args.self.now.letters);
      tiles = omega (arith, left_is m d, few m d);
      inside = omega (arith, left_is m d, own_is m s.After-min-most, own_fits m d, turn_fits m s.In-loop-c);
    }

pub overflow_add-rack : goal.overflow_add-rack
overflow_add-rack m c =
    let s = goal.at.overflow_add-rack m c in
    omega (arith, rack_is m s.After-min-most c.loop-c.c c.rank_step-in-loop-c.ensures, with_below c.requires (letter m s.Then-s-self) c.loop-c.c (turn_fits m s.In-loop-c), c.well_formed)

pub walk-requires : goal.walk-requires
walk-requires m c =
    let s = goal.at.walk-requires m c in
    let a = s.After-min-most in
    let d = s.Then-s-self in
    (omega (arith, c.decreases, letter m d), ready_with c.requires (letter m d) (turned_long c.loop-c.invariant.2) (turn_fits m s.In-loop-c) (kept_is m a c.loop-c.c c.rank_step.ensures) (rack_is m a c.loop-c.c c.rank_step-in-loop-c.ensures))

pub loop-c-preserved : goal.loop-c-preserved
loop-c-preserved m c =
    let a = (goal.at.loop-c-preserved m c).After-min-most in
    let inv = c.loop-c.invariant in
    let e : c.loop-c.c + 1 - 1 ≡ c.loop-c.c = omega arith in
    (omega arith, omega arith, rw e (turn m a c.loop-c.c inv.0 inv.2 c.rank_step.ensures c.rank_step-in-loop-c.ensures c.walk.ensures))

pub rank_step-requires-then-s-self : goal.rank_step-requires-then-s-self
rank_step-requires-then-s-self m c =
    let s = goal.at.rank_step-requires-then-s-self m c in
    let d = s.Then-s-self in
    record {
      letters = omega (arith, c.args.self.now.letters);
      tiles = omega (arith, left_is m d, few m d);
      inside = omega (arith, left_is m d, own_is m s.After-min-most, own_fits m d);
    }

pub overflow_add-next : goal.overflow_add-next
overflow_add-next m c =
    let s = goal.at.overflow_add-next m c in
    omega (arith, next_is m s.After-min-most c.rank_step-then-s-self.ensures, none_below c.requires (letter m s.Then-s-self), c.well_formed)

pub walk-requires-then-s-self : goal.walk-requires-then-s-self
walk-requires-then-s-self m c =
    let s = goal.at.walk-requires-then-s-self m c in
    let d = s.Then-s-self in
    (omega (arith, c.decreases, letter m d), ready_none c.requires (letter m d) (turned_long (turned m s.After-rank_step-then-s-self)) (next_is m s.After-min-most c.rank_step-then-s-self.ensures))

pub returns-then-s-eq0 : goal.returns-then-s-eq0
returns-then-s-eq0 m c =
    rw c.if-s-eq0.true
    (walk_whole c.args.self.now.worth c.args.self.now.leave.now c.args.best.now c.args.self.now.tally.now c.args.self.now.caps.now c.args.t c.args.k c.args.r c.args.self.now.same (tail_is m (goal.at.returns-then-s-eq0 m c).Then-s-eq0) c.offer.ensures)

pub returns-after-loop-c : goal.returns-after-loop-c
returns-after-loop-c m c =
    let s = goal.at.returns-after-loop-c m c in
    let a = s.After-min-most in
    turned_all (turned m s.After-rank_step-then-s-self) c.args.self.now.same (letter m s.Then-s-self) (most_is m a)
    (c.walk-then-s-self.ensures
    ∙ (λ i. raise_all c.loop-c-test.best (offers_at c.args.self.now.worth c.args.self.now.leave.now c.args.self.now.tally.now c.args.self.now.caps.now c.args.k (next_is m a c.rank_step-then-s-self.ensures i) (c.args.t + 1) c.args.s)))

pub returns-else-s-self : goal.returns-else-s-self
returns-else-s-self m c =
    let e = c.args.self.now.planned.sums.room c.args.t c.requires.letters in
    let l = c.if-s-self.false in
    walk_few _ _ _ _ _ _ _ _ _ (omega arith)

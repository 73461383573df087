-- The proof of the cycle of calls {aggregate}. The measure is the number of letters from t on. The loop's invariant: the totals are those
-- of the turns so far, and binom and ridx are the binomial and the rank of as many tiles. Assumes nothing.
use Rattle.std.proofs.Common.{◌≡◌, ℕ, suc, ◌+◌, ◌-◌, ◌<◌, length, pos, refl, ap, ◌∙◌, add-one, arith}
use lib.Ieee.{Float, binary64, mul, div}
use Rattle.whole.specs.Whole.{whole}
use Rattle.whole.proofs.Steps.{one_literal}
use Rattle.lattice.specs.Tables.{up}
use Rattle.draws.specs.Walk.{running, climb}
use Rattle.draws.specs.Walking.{short_none, short_place, short_climb, walk_none, walk_lacking, letter_there, left_is, walk_next, turn_first, turn_next, turns_done}
use Rattle.draws.proofs.walk.Walk.+aggregate.Goals.{After-held-u, In-loop-j, After-raised-ridx}
use Rattle.draws.proofs.walk.Walk.+aggregate.Goals as goal

pub gain-requires : goal.gain-requires
gain-requires m c =
    let walk = c.requires.1 in
    omega (arith, short_none walk.short c.if-remaining-eq0.true, walk.bests)

pub returns-then-remaining-eq0 : goal.returns-then-remaining-eq0
returns-then-remaining-eq0 m c = walk_none c.requires.1 c.args.leave.w c.if-remaining-eq0.true c.gain.ensures

pub returns-then-left-remaining : goal.returns-then-left-remaining
returns-then-left-remaining m c = walk_lacking c.requires.1 c.args.leave.w _ c.if-left-remaining.true

pub bounds-self-t : goal.bounds-self-t
bounds-self-t m c = letter_there c.requires.1 c.args.leave.w c.if-remaining-eq0.false c.if-left-remaining.false

pub overflow_sub-rest : goal.overflow_sub-rest
overflow_sub-rest m c =
    omega (arith, left_is c.requires.1 c.args.leave.w c.if-remaining-eq0.false c.if-left-remaining.false c.held-u.ensures.same)

-- the letter is there
there : (m : ℕ) → (c : goal.After-held-u m) → c.args.t < length c.args.self.now.pool.now
there m c = letter_there c.requires.1 c.args.leave.w c.if-remaining-eq0.false c.if-left-remaining.false

pub aggregate-sums-requires : goal.aggregate-sums-requires
unfolding climb
aggregate-sums-requires m c =
    (omega (arith, c.decreases, there m c), (c.requires.0, walk_next c.requires.1 c.args.leave.w c.if-remaining-eq0.false c.if-left-remaining.false c.held-u.ensures.same 0 (add-one c.args.t) refl (omega arith) (omega arith) refl))

pub loop-j-init : goal.loop-j-init
unfolding climb running
loop-j-init m c =
    (omega arith, one_literal, refl, turn_first c.requires.1 c.args.leave.w c.if-remaining-eq0.false c.if-left-remaining.false c.held-u.ensures.same (add-one c.args.t) c.aggregate-sums.ensures)

-- a turn takes no more than is to come
few : (m : ℕ) → (c : goal.In-loop-j m) → c.loop-j.j < c.args.remaining
few m c = omega (arith, c.min-j-end.ensures)

pub raised-ridx-requires : goal.raised-ridx-requires
raised-ridx-requires m c =
    let walk = c.requires.1 in
    let h = there m (goal.at.raised-ridx-requires m c).After-held-u in
    let j-few = few m (goal.at.raised-ridx-requires m c).In-loop-j in
    rw c.loop-j.invariant.2 (short_place walk.right h (short_climb walk.right h c.loop-j.j (omega arith) walk.short) (omega arith))

-- the rank of one tile more
rank_next : (m : ℕ) → (c : goal.After-raised-ridx m) → c.raised-ridx.result ≡ climb (length c.args.self.now.pool.now) c.args.self.now.add.now c.args.t (suc c.loop-j.j) c.args.leave.ridx
unfolding climb
rank_next m c =
    c.raised-ridx.ensures ∙ ap (up (length c.args.self.now.pool.now) c.args.self.now.add.now c.args.t) c.loop-j.invariant.2

pub aggregate-sums-requires-in-loop-j : goal.aggregate-sums-requires-in-loop-j
aggregate-sums-requires-in-loop-j m c =
    let h = few m (goal.at.aggregate-sums-requires-in-loop-j m c).In-loop-j in (
      omega (arith, c.decreases, there m (goal.at.aggregate-sums-requires-in-loop-j m c).After-held-u),
      (c.requires.0, walk_next c.requires.1 c.args.leave.w c.if-remaining-eq0.false c.if-left-remaining.false c.held-u.ensures.same (suc c.loop-j.j) (add-one c.args.t) refl h (omega arith) (rank_next m (goal.at.aggregate-sums-requires-in-loop-j m c).After-raised-ridx)),
    )

pub loop-j-preserved : goal.loop-j-preserved
unfolding running
loop-j-preserved m c =
    let l = c.loop-j in
    let u = c.held-u.result in
    let e = add-one l.j in
    let r = rank_next m (goal.at.loop-j-preserved m c).After-raised-ridx in
    let b : c.next_binomial-binom.result ≡ running u (suc l.j) =
    c.next_binomial-binom.ensures ∙ ap (λ (x : Float). div binary64 (mul binary64 x (whole (pos (u - l.j)))) (whole (pos (l.j + 1)))) l.invariant.1 ∙ ap (λ (k : ℕ). div binary64 (mul binary64 (running u l.j) (whole (pos (u - l.j)))) (whole (pos k))) e in
    rw e (
      omega arith,
      b,
      r,
      turn_next c.requires.1 c.args.leave.w c.if-remaining-eq0.false c.if-left-remaining.false c.held-u.ensures.same l.j (add-one c.args.t) (omega arith) b r l.invariant.3 c.aggregate-sums-in-loop-j.ensures,
    )

pub returns : goal.returns
returns m c =
    let l = c.loop-j in
    turns_done c.requires.1 c.args.leave.w c.if-remaining-eq0.false c.if-left-remaining.false c.held-u.ensures.same (omega (arith, c.min-j-end.ensures, l.invariant.0)) l.invariant.3

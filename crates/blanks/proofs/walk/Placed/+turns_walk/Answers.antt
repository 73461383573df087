-- The proof of the cycle of calls {turns, walk}, from the last letter that is there. Assumes nothing.
use Rattle.std.proofs.Common.{◌≡◌, ℕ, suc, ◌+◌, ◌-◌, ◌≤◌, List, length, get_or, sym, ◌∙◌, rules, arith, ℤ, w32}
use mir.ValLaws.{to_z-of_z}
use Rattle.runs.specs.Runs.{none_present, ones_none}
use Rattle.blanks.specs.Raise.{Raised}
use Rattle.blanks.specs.Ready.{less_bound, less_next, Ready, finds_skip, run_ready, run_is, run_fits, end_blanks, end_below, end_done, room, more_below, Turns, turns_none, turns_more, turns_all, turn_done, next_ready, ready_inside}
use Rattle.blanks.proofs.walk.Placed.+turns_walk.Goals.{turns-After-lower-u, turns-then-still-le1, turns-else-still-le1}
use Rattle.blanks.proofs.walk.Placed.+turns_walk.Goals as goal

-- the tiles of the last letter that is there
module _ {cells : ℕ} {ls : List ℕ} {ds : List ℤ} {unseen tally : List ℕ} {l last k after w : ℕ} {v : ℤ} (ready : Ready cells ls ds unseen tally l last k after w v)
    (one_more : suc (l - 1) ≡ l) {count : ℕ} (is : count ≡ get_or tally (l - 1) 0) where
  -- where they begin
  begins : last - count ≡ last - get_or tally (l - 1) 0
  begins = omega arith

  all_inside : count ≤ last
  all_inside = omega (arith, run_fits ready one_more begins)

  all_read : last - count + count ≤ length ds
  all_read = let a = all_inside in let e = ready.board.pairs in omega (arith, ready_inside ready)

  -- some of them are blanks
  module _ (b : ℕ) where
    most : b ≤ count → b ≤ last - (last - count)
    most h = let a = all_inside in omega arith

    real : count - get_or unseen l 0 ≤ b → last - (last - count) - b ≤ get_or unseen l 0
    real h = let a = all_inside in omega arith

    reals : count - b ≡ last - (last - count) - b
    reals = let a = all_inside in omega arith

    reals_fit : count - b ≤ last - (last - count)
    reals_fit = let a = all_inside in omega arith

    space : after + (count - b) ≤ 15
    space = room ready one_more begins _ reals_fit

pub turns-overflow_sub-s : goal.turns-overflow_sub-s
turns-overflow_sub-s t c =
    let p = c.requires.ready in
    all_inside (run_ready p c.next_run-run.ensures) (run_is p c.next_run-run.ensures) c.from-count.ensures

pub turns-lowered-u-requires : goal.turns-lowered-u-requires
turns-lowered-u-requires t c =
    let p = c.requires.ready in
    let r = run_ready p c.next_run-run.ensures in
    let m = run_is p c.next_run-run.ensures in
    let e = c.saturating_sub-forced.ensures in
    let a = all_inside r m c.from-count.ensures in
    let bound = p.bound in
    record { inside = omega (arith, all_read r m c.from-count.ensures); small = p.board.drops; bound = rw (to_z-of_z w32 c.args.v c.ranges.v) (omega arith) }

pub turns-loop-b-init : goal.turns-loop-b-init
turns-loop-b-init t c =
    let p = c.requires.ready in
    let r = run_ready p c.next_run-run.ensures in
    let m = run_is p c.next_run-run.ensures in
    let a = all_inside r m c.from-count.ensures in
    let e = c.saturating_sub-forced.ensures in
    let g = c.from.ensures in (
      omega arith,
      (λ h. rw (to_z-of_z w32 c.lowered-u.result (record { sfits = c.lowered-u.type_inv })) c.lowered-u.ensures),
      rw (to_z-of_z w32 c.args.v c.ranges.v) (turns_none r m (begins r m c.from-count.ensures) c.args.left _ _ (omega arith)),
    )

pub turns-past-y-requires : goal.turns-past-y-requires
turns-past-y-requires t c =
    let p = c.requires.ready in
    let r = run_ready p c.next_run-run.ensures in
    let m = run_is p c.next_run-run.ensures in
    let i = c.from-count.ensures in
    let w = r.width in
    let n = r.board.letters in
    record { letters = omega arith; tiles = space r m i _; fits = omega (arith, more_below r m (begins r m i) _ (reals_fit r m i c.loop-b.b), c.well_formed) }

pub turns-few_left-requires : goal.turns-few_left-requires
turns-few_left-requires t c =
    let p = c.requires in
    let r = run_ready p.ready c.next_run-run.ensures in
    let m = run_is p.ready c.next_run-run.ensures in
    let i = c.from-count.ensures in
    let inside : c.loop-b.b ≤ c.from-count.result = omega (arith, c.min-most.ensures, c.loop-b-test.true) in
    let few : c.loop-b.b ≤ c.args.left = omega (arith, c.min-most.ensures, c.loop-b-test.true) in
    let worth = rw (to_z-of_z w32 c.args.v c.ranges.v) at (c.loop-b.invariant.1 inside) in
    record {
      ready =
          rw c.loop-b.invariant.2.size
          (next_ready r m (begins r m i) c.args.left (most r m i _ inside) few (real r m i _ c.loop-b.invariant.0) (reals r m i _) c.past-y.ensures worth);
      word = c.next_run-run.ensures.before;
      blanks = omega (arith, p.blanks);
      few = c.if-still-le1.true;
    }

pub turns-walk-requires : goal.turns-walk-requires
turns-walk-requires t c =
    let p = c.requires in
    let r = run_ready p.ready c.next_run-run.ensures in
    let m = run_is p.ready c.next_run-run.ensures in
    let i = c.from-count.ensures in
    let inside : c.loop-b.b ≤ c.from-count.result = omega (arith, c.min-most.ensures, c.loop-b-test.true) in
    let few : c.loop-b.b ≤ c.args.left = omega (arith, c.min-most.ensures, c.loop-b-test.true) in
    let worth = rw (to_z-of_z w32 c.args.v c.ranges.v) at (c.loop-b.invariant.1 inside) in (
      omega (arith, c.decreases, c.next_run-run.ensures.inside),
      (
        rw c.loop-b.invariant.2.size
            (next_ready r m (begins r m i) c.args.left (most r m i _ inside) few (real r m i _ c.loop-b.invariant.0) (reals r m i _) c.past-y.ensures worth),
        (c.next_run-run.ensures.before, omega (arith, p.blanks)),
      ),
    )

pub turns-lower-u-requires : goal.turns-lower-u-requires
turns-lower-u-requires t c =
    let p = c.requires in
    let r = run_ready p.ready c.next_run-run.ensures in
    let m = run_is p.ready c.next_run-run.ensures in
    let i = c.from-count.ensures in
    let pairs = p.ready.board.pairs in
    let bound = p.ready.bound in
    let inside : c.loop-b.b ≤ c.from-count.result = omega (arith, c.min-most.ensures, c.loop-b-test.true) in
    let a = all_inside r m i in
    let worth = rw (to_z-of_z w32 c.args.v c.ranges.v) at (c.loop-b.invariant.1 inside) in
    record { inside = omega (arith, ready_inside p.ready); small = p.ready.board.drops; bound = rw worth (omega (arith, less_bound c.args.v c.args.self.now.drops.now (c.args.place.tiles - c.from-count.result) c.loop-b.b p.ready.board.drops)) }

-- a turn done
turn : (t : ℕ) (c : goal.turns-After-lower-u t)
    → Raised c.args.sheet.now (Turns c.args.self.now.letters.now c.args.self.now.drops.now c.args.self.now.unseen.now c.next_run-run.result.stop c.args.place.tiles (c.args.place.tiles - c.from-count.result) c.args.left c.args.place.blanks c.args.place.real c.args.place.rank c.args.v (c.loop-b.b + 1)) c.if-still-le1.sheet
turn t c =
    let p = c.requires in
    let r = run_ready p.ready c.next_run-run.ensures in
    let m = run_is p.ready c.next_run-run.ensures in
    let i = c.from-count.ensures in
    let inside : c.loop-b.b ≤ c.from-count.result = omega (arith, c.min-most.ensures, c.loop-b-test.true) in
    let few : c.loop-b.b ≤ c.args.left = omega (arith, c.min-most.ensures, c.loop-b-test.true) in
    let e = to_z-of_z w32 c.args.v c.ranges.v in
    let inv = c.loop-b.invariant in
    let worth = rw e at (inv.1 inside) in
    turns_more r m (begins r m i) c.args.left c.loop-b.b (rw e at inv.2)
    (turn_done r m (begins r m i) c.args.left (most r m i _ inside) few (real r m i _ inv.0) (reals r m i _) c.past-y.ensures worth
    (elim c.if-still-le1.branch [
      | turns-then-still-le1 w ↦ rw w.sheet-is w.few_left.ensures
      | turns-else-still-le1 w ↦ rw w.sheet-is w.walk.ensures
    ]))

pub turns-loop-b-preserved : goal.turns-loop-b-preserved
turns-loop-b-preserved t c =
    let m = run_is c.requires.ready c.next_run-run.ensures in
    let r = run_ready c.requires.ready c.next_run-run.ensures in
    let inside : c.loop-b.b ≤ c.from-count.result = omega (arith, c.min-most.ensures, c.loop-b-test.true) in
    let a = all_inside r m c.from-count.ensures in
    let inv = c.loop-b.invariant in
    let low = c.lower-u in (
      (let h = inv.0 in omega arith),
      (λ h. rw (to_z-of_z w32 low.result (record { sfits = low.type_inv })) (less_next _ _ _ c.loop-b.b (inv.1 inside) (low.ensures (omega arith)))),
      rw (to_z-of_z w32 c.args.v c.ranges.v) (turn t (goal.at.turns-loop-b-preserved t c).After-lower-u),
    )

-- after the last turn, or where there is none
pub turns-returns-after-still-le1 : goal.turns-returns-after-still-le1
turns-returns-after-still-le1 t c =
    let p = c.requires in
    let r = run_ready p.ready c.next_run-run.ensures in
    let m = run_is p.ready c.next_run-run.ensures in
    let i = c.from-count.ensures in
    let few = c.min-most.ensures in
    let f = c.next_run-run.ensures in
    let g = all_inside r m i in
    finds_skip p.ready f.inside f.absent c.args.left
    (turns_all r m (begins r m i) c.args.left (c.loop-b.b + 1) (λ x l k. omega arith) (turn t (goal.at.turns-returns-after-still-le1 t c).After-lower-u))

pub turns-returns : goal.turns-returns
turns-returns t c =
    let p = c.requires in
    let r = run_ready p.ready c.next_run-run.ensures in
    let m = run_is p.ready c.next_run-run.ensures in
    let i = c.from-count.ensures in
    let few = c.min-most.ensures in
    let h = c.loop-b-test.false in
    let f = c.next_run-run.ensures in
    let g = all_inside r m i in
    finds_skip p.ready f.inside f.absent c.args.left
    (turns_all r m (begins r m i) c.args.left c.loop-b.b (λ x l k. omega arith) (rw (to_z-of_z w32 c.args.v c.ranges.v) at c.loop-b.invariant.2))

-- ---- walk

pub walk-turns-requires : goal.walk-turns-requires
walk-turns-requires t c =
    let p = c.requires in (
      omega (arith, c.decreases),
      (rw (to_z-of_z w32 c.args.v c.ranges.v) p.ready, (p.word, ((λ o. c.if-word-eq0.false (ones_none 64 c.args.word (search rules) o)), p.blanks))),
    )

pub walk-raise_at-requires : goal.walk-raise_at-requires
walk-raise_at-requires t c =
    let p = c.requires in
    let empty = none_present _ _ p.ready.top (sym p.word ∙ c.if-word-eq0.true) in
    let no_more : c.args.place.blanks ≤ c.args.self.now.most = omega (arith, c.requires.blanks) in
    record { few = omega (arith, end_blanks p.ready empty c.args.self.now.heads_right no_more, p.ready.board.few); inside = end_below p.ready empty c.args.self.now.heads_right no_more }

pub walk-returns-then-word-eq0 : goal.walk-returns-then-word-eq0
walk-returns-then-word-eq0 t c =
    let p = c.requires in
    let empty = none_present _ _ p.ready.top (sym p.word ∙ c.if-word-eq0.true) in
    let no_more : c.args.place.blanks ≤ c.args.self.now.most = omega (arith, c.requires.blanks) in
    rw (c.raise_at.ensures, to_z-of_z w32 c.args.v c.ranges.v) (end_done p.ready empty c.args.self.now.heads_right no_more c.args.left c.args.sheet.now)

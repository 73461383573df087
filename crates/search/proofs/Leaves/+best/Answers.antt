use Rattle.std.proofs.Common.{◌≡◌, ◌≤◌, ◌+◌, ◌-◌, ◌∙◌, ℕ, length, take, arith}
use Rattle.lattice.specs.Tally.{start}
use Rattle.laws.specs.Greatest.{GreatestBy}
use Rattle.runs.specs.Runs.{ones_some}
use Rattle.search.specs.Order.{KeptLe}
use Rattle.search.specs.Keep.{KeepReady, Turns, turns_more, end_below, keep_end, split_below, room, keep_next, turn_next, keep_starts, keep_done}
use Rattle.search.specs.KeepRuns.{keep_over, keep_back, letters_left}
use Rattle.search.proofs.Leaves.+best.Goals.{Then-left-eq0, In-Some, In-loop-count, After-best-found}
use Rattle.search.proofs.Leaves.+best.Goals as goal

-- where the leaves begin
begins : (t : ℕ) (c : goal.Then-left-eq0 t) → c.args.self.now.first ≡ start (length c.args.runs.tally.now) (c.args.kept.tiles + c.args.left)
begins t c = rw (c.requires.size, c.requires.rack) c.args.self.now.begins

pub better_at-requires-clause-inside : goal.better_at-requires-clause-inside
better_at-requires-clause-inside t c = end_below c.requires.ready c.if-left-eq0.true (begins t c)

pub returns-then-left-eq0 : goal.returns-then-left-eq0
returns-then-left-eq0 t c =
    keep_end c.requires.ready c.if-left-eq0.true (begins t (goal.at.returns-then-left-eq0 t c).Then-left-eq0) c.better_at.ensures

-- where tiles are left to keep, a letter is there
pub returns-in-None : goal.returns-in-None
returns-in-None t c =
    absurd (ones_some (letters_left c.requires.ready c.if-left-eq0.false c.args.runs.letters) (c.args.runs.letters ∙ c.in-None.ensures))

-- what the walk is given, from the last letter that is there
ready : (t : ℕ) (c : goal.In-Some t) → KeepReady c.args.self.now.leave.now c.args.runs.tally.now c.in-Some.last.stop c.args.below c.args.kept.tiles c.args.kept.before c.args.left
ready t c = keep_back _ _ _ _ _ c.in-Some.ensures.inside c.in-Some.ensures.absent c.requires.ready

pub overflow_sub-rest : goal.overflow_sub-rest
overflow_sub-rest t c = omega (arith, split_below (ready t (goal.at.overflow_sub-rest t c).In-Some) c.in-Some.ensures.some c.in-Some.ensures.counted)

pub loop-count-init : goal.loop-count-init
loop-count-init t c =
    let run = c.in-Some.ensures in
    let r = ready t (goal.at.loop-count-init t c).In-Some in (
      omega arith,
      omega (arith, c.saturating_sub-low.ensures, c.min-high.ensures, r.enough, split_below r run.some run.counted),
      rw c.saturating_sub-low.ensures (keep_starts r run.some run.counted _),
    )

-- a turn keeps no more than is left, and leaves no more than the letters before have
fits : (t : ℕ) (c : goal.In-loop-count t) → c.loop-count.count ≤ c.args.left
fits t c = omega (arith, c.loop-count-test.true, c.min-high.ensures)

low : (t : ℕ) (c : goal.In-loop-count t) → c.args.left - (c.args.below - c.in-Some.last.count) ≤ c.loop-count.count
low t c = omega (arith, c.loop-count.invariant.0, c.saturating_sub-low.ensures)

pub with-place-requires-clause-fits : goal.with-place-requires-clause-fits
with-place-requires-clause-fits t c =
    let run = c.in-Some.ensures in
    omega (arith, (room (ready t (goal.at.with-place-requires-clause-fits t c).In-Some) run.some run.counted (fits t (goal.at.with-place-requires-clause-fits t c).In-loop-count)).1, c.well_formed)

pub best-found-requires : goal.best-found-requires
best-found-requires t c =
    let run = c.in-Some.ensures in
    let some = run.some in
    let d = (goal.at.best-found-requires t c).In-loop-count in
    let h = fits t d in
    let next = keep_next (ready t (goal.at.best-found-requires t c).In-Some) some run.counted (low t d) h c.with-place.ensures.before in (
      omega (arith, c.decreases, run.inside, run.before),
      (
        rw run.same c.requires.rack,
        (omega (arith, c.with-place.ensures.tiles, c.requires.size, h), rw (run.same, run.before, c.with-place.ensures.tiles) next),
      ),
    )

-- after the call of a turn: the best of the turns up to it
turned : (t : ℕ) (c : goal.After-best-found t)
    → GreatestBy KeptLe c.args.best (Turns c.args.self.now.leave.now (length c.args.runs.tally.now) (take (c.in-Some.last.stop - 1) c.args.runs.tally.now) c.in-Some.last.count (length c.args.runs.tally.now - c.in-Some.last.stop) c.args.kept.tiles c.args.kept.before c.args.left (c.loop-count.count + 1)) c.best-found.result
turned t c =
    let run = c.in-Some.ensures in
    let d = (goal.at.After-best-found t c).In-loop-count in
    turns_more _ _ _ _ _ _ _ _ _ c.loop-count.invariant.2
    (turn_next (ready t (goal.at.After-best-found t c).In-Some) run.some run.counted (low t d) (fits t d) c.with-place.ensures.before
    (rw (run.same, run.before, c.with-place.ensures.tiles) at c.best-found.ensures))

pub loop-count-preserved : goal.loop-count-preserved
loop-count-preserved t c = (
  omega (arith, c.loop-count.invariant.0),
  omega (arith, c.loop-count-test.true),
  turned t (goal.at.loop-count-preserved t c).After-best-found,
)

pub returns-in-Some-2 : goal.returns-in-Some-2
returns-in-Some-2 t c =
    let run = c.in-Some.ensures in
    keep_over _ _ _ _ _ run.inside c.requires.ready.letters run.absent
    (keep_done (ready t (goal.at.returns-in-Some-2 t c).In-Some) run.some run.counted (c.loop-count.count + 1) (omega (arith, c.min-high.ensures)) (turned t (goal.at.returns-in-Some-2 t c).After-best-found))

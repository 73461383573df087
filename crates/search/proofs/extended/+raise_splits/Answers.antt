use Rattle.std.proofs.Common.{◌≡◌, ◌+◌, ◌-◌, ◌∙◌, ℕ, length, take, refl, arith, rules}
use Rattle.runs.specs.Runs.{present}
use Rattle.search.specs.Walk.{Turns, part_played, part_kept}
use Rattle.search.specs.Runs.{end_ready}
use Rattle.search.specs.Raised.{Raised, RunReady, raised_more, raised_up, raised_end, run_down, run_next, run_turn, run_done}
use Rattle.search.proofs.extended.+raise_splits.Goals.{In-Some, Then-is_empty, After-raise_worths-in-loop-count, After-raise_splits}
use Rattle.search.proofs.extended.+raise_splits.Goals as goal

-- no letter is there: one split is left
pub raise_worths-requires-clause-whole : goal.raise_worths-requires-clause-whole
raise_worths-requires-clause-whole t c = end_ready _ _ _ _ _ _ _ c.requires.last.letters c.in-None.ensures c.requires.last

pub returns-in-None : goal.returns-in-None
returns-in-None t c = raised_end _ _ _ _ _ _ _ c.requires.last.letters c.in-None.ensures c.raise_worths.ensures

-- what the walk is given, from the last letter that is there
ready : (t : ℕ) (c : goal.In-Some t)
    → RunReady c.args.a.now c.args.b.now c.args.runs.tally.now c.in-Some.last.stop c.args.part.tiles c.args.part.before c.args.other.tiles c.args.other.before (length c.args.run.now)
ready t c = run_down c.requires c.in-Some.ensures.inside c.in-Some.ensures.absent

-- the same where no other letter is there
alone : (t : ℕ) (c : goal.Then-is_empty t) → present (take (c.in-Some.last.stop - 1) c.args.runs.tally.now) ≡ 0
alone t c = rw (c.in-Some.ensures.same, c.in-Some.ensures.before) at (c.if-is_empty.ensures.0 refl)

pub with-p-requires-clause-tiles : goal.with-p-requires-clause-tiles
with-p-requires-clause-tiles t c = (part_played (ready t (goal.at.with-p-requires-clause-tiles t c).In-Some).last c.in-Some.ensures.some c.in-Some.ensures.counted c.loop-count-test.true (omega (arith, c.well_formed))).0

pub with-p-requires-clause-fits : goal.with-p-requires-clause-fits
with-p-requires-clause-fits t c = omega (arith, (part_played (ready t (goal.at.with-p-requires-clause-fits t c).In-Some).last c.in-Some.ensures.some c.in-Some.ensures.counted {x = c.loop-count.count} c.loop-count-test.true (omega (arith, c.well_formed))).1)

pub with-q-requires-clause-tiles : goal.with-q-requires-clause-tiles
with-q-requires-clause-tiles t c = (part_kept (ready t (goal.at.with-q-requires-clause-tiles t c).In-Some).last c.in-Some.ensures.some c.in-Some.ensures.counted c.loop-count-test.true (omega (arith, c.well_formed))).0

pub with-q-requires-clause-fits : goal.with-q-requires-clause-fits
with-q-requires-clause-fits t c = omega (arith, (part_kept (ready t (goal.at.with-q-requires-clause-fits t c).In-Some).last c.in-Some.ensures.some c.in-Some.ensures.counted {x = c.loop-count.count} c.loop-count-test.true (omega (arith, c.well_formed))).1)

pub raise_worths-requires-in-loop-count-clause-whole : goal.raise_worths-requires-in-loop-count-clause-whole
raise_worths-requires-in-loop-count-clause-whole t c =
    let run = c.in-Some.ensures in
    let next = run_next (ready t (goal.at.raise_worths-requires-in-loop-count-clause-whole t c).In-Some) run.some run.counted c.loop-count-test.true c.with-p.ensures.before c.with-q.ensures.before c.loop-count.invariant.1 in
    rw (c.with-p.ensures.tiles, c.with-q.ensures.tiles)
    (end_ready _ _ _ _ _ _ _ next.last.letters (alone t (goal.at.raise_worths-requires-in-loop-count-clause-whole t c).Then-is_empty) next.last)

-- after a turn: the run is raised by the turns up to it
turned : (t : ℕ) (c : goal.After-raise_worths-in-loop-count t)
    → (length c.raise_worths-in-loop-count.new.run ≡ length c.args.run.now) × Raised (λ y. Turns c.args.a.now c.args.b.now (length c.args.runs.tally.now) (take (c.in-Some.last.stop - 1) c.args.runs.tally.now) c.in-Some.last.count (length c.args.runs.tally.now - c.in-Some.last.stop) c.args.part.tiles (c.args.part.before + y) c.args.other.tiles c.args.other.before (c.loop-count.count + 1)) c.args.run.now c.raise_worths-in-loop-count.new.run
turned t c =
    let l = c.loop-count in
    let run = c.in-Some.ensures in
    let r = ready t (goal.at.After-raise_worths-in-loop-count t c).In-Some in
    let below = c.loop-count-test.true in
    let v = rw (c.with-p.ensures.tiles, c.with-q.ensures.tiles) at c.raise_worths-in-loop-count.ensures in
    let next = run_next r run.some run.counted below c.with-p.ensures.before c.with-q.ensures.before l.invariant.1 in
    let turn = run_turn r run.some run.counted below c.with-p.ensures.before c.with-q.ensures.before l.invariant.1 (raised_end _ _ _ _ _ _ _ next.last.letters (alone t (goal.at.After-raise_worths-in-loop-count t c).Then-is_empty) v) in
    (v.size ∙ l.invariant.1, raised_more l.invariant.2 turn)

pub loop-count-preserved : goal.loop-count-preserved
loop-count-preserved t c = let d = turned t (goal.at.loop-count-preserved t c).After-raise_worths-in-loop-count in (omega arith, d.0, d.1)

pub returns-then-is_empty-2 : goal.returns-then-is_empty-2
returns-then-is_empty-2 t c =
    let run = c.in-Some.ensures in
    let d = turned t (goal.at.returns-then-is_empty-2 t c).After-raise_worths-in-loop-count in
    raised_up _ _ _ _ _ _ _ run.inside c.requires.last.letters run.absent
    (run_done (ready t (goal.at.returns-then-is_empty-2 t c).In-Some) run.some run.counted (c.loop-count.count + 1) (omega arith) (search rules) d.1)

-- the same for a turn that splits the letters before

pub with-p-requires-in-loop-count-2-clause-tiles : goal.with-p-requires-in-loop-count-2-clause-tiles
with-p-requires-in-loop-count-2-clause-tiles t c = (part_played (ready t (goal.at.with-p-requires-in-loop-count-2-clause-tiles t c).In-Some).last c.in-Some.ensures.some c.in-Some.ensures.counted c.loop-count-2-test.true (omega (arith, c.well_formed))).0

pub with-p-requires-in-loop-count-2-clause-fits : goal.with-p-requires-in-loop-count-2-clause-fits
with-p-requires-in-loop-count-2-clause-fits t c = omega (arith, (part_played (ready t (goal.at.with-p-requires-in-loop-count-2-clause-fits t c).In-Some).last c.in-Some.ensures.some c.in-Some.ensures.counted {x = c.loop-count-2.count} c.loop-count-2-test.true (omega (arith, c.well_formed))).1)

pub with-q-requires-in-loop-count-2-clause-tiles : goal.with-q-requires-in-loop-count-2-clause-tiles
with-q-requires-in-loop-count-2-clause-tiles t c = (part_kept (ready t (goal.at.with-q-requires-in-loop-count-2-clause-tiles t c).In-Some).last c.in-Some.ensures.some c.in-Some.ensures.counted c.loop-count-2-test.true (omega (arith, c.well_formed))).0

pub with-q-requires-in-loop-count-2-clause-fits : goal.with-q-requires-in-loop-count-2-clause-fits
with-q-requires-in-loop-count-2-clause-fits t c = omega (arith, (part_kept (ready t (goal.at.with-q-requires-in-loop-count-2-clause-fits t c).In-Some).last c.in-Some.ensures.some c.in-Some.ensures.counted {x = c.loop-count-2.count} c.loop-count-2-test.true (omega (arith, c.well_formed))).1)

pub raise_splits-requires : goal.raise_splits-requires
raise_splits-requires t c =
    let run = c.in-Some.ensures in
    let some = run.some in
    let next = run_next (ready t (goal.at.raise_splits-requires t c).In-Some) some run.counted c.loop-count-2-test.true c.with-p-in-loop-count-2.ensures.before c.with-q-in-loop-count-2.ensures.before c.loop-count-2.invariant.1 in (
      omega (arith, c.decreases, run.inside, run.before),
      rw (run.same, run.before, c.with-p-in-loop-count-2.ensures.tiles, c.with-q-in-loop-count-2.ensures.tiles) next,
    )

split : (t : ℕ) (c : goal.After-raise_splits t)
    → (length c.raise_splits.new.run ≡ length c.args.run.now) × Raised (λ y. Turns c.args.a.now c.args.b.now (length c.args.runs.tally.now) (take (c.in-Some.last.stop - 1) c.args.runs.tally.now) c.in-Some.last.count (length c.args.runs.tally.now - c.in-Some.last.stop) c.args.part.tiles (c.args.part.before + y) c.args.other.tiles c.args.other.before (c.loop-count-2.count + 1)) c.args.run.now c.raise_splits.new.run
split t c =
    let l = c.loop-count-2 in
    let run = c.in-Some.ensures in
    let v = rw (run.same, run.before, c.with-p-in-loop-count-2.ensures.tiles, c.with-q-in-loop-count-2.ensures.tiles) at c.raise_splits.ensures in
    let turn = run_turn (ready t (goal.at.After-raise_splits t c).In-Some) run.some run.counted c.loop-count-2-test.true c.with-p-in-loop-count-2.ensures.before c.with-q-in-loop-count-2.ensures.before l.invariant.1 v in
    (v.size ∙ l.invariant.1, raised_more l.invariant.2 turn)

pub loop-count-2-preserved : goal.loop-count-2-preserved
loop-count-2-preserved t c = let d = split t (goal.at.loop-count-2-preserved t c).After-raise_splits in (omega arith, d.0, d.1)

pub returns-else-is_empty-2 : goal.returns-else-is_empty-2
returns-else-is_empty-2 t c =
    let run = c.in-Some.ensures in
    let d = split t (goal.at.returns-else-is_empty-2 t c).After-raise_splits in
    raised_up _ _ _ _ _ _ _ run.inside c.requires.last.letters run.absent
    (run_done (ready t (goal.at.returns-else-is_empty-2 t c).In-Some) run.some run.counted (c.loop-count-2.count + 1) (omega arith) (search rules) d.1)

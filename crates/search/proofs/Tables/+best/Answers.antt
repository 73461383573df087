use Rattle.std.proofs.Common.{◌≡◌, ◌+◌, ◌-◌, ℕ, length, take, refl, arith, w32}
use mir.ValLaws.{to_z-of_z}
use Rattle.laws.specs.Greatest.{Greatest}
use Rattle.runs.specs.Runs.{present}
use Rattle.search.specs.Split.{Ready}
use Rattle.search.specs.Walk.{Turns, turns_more, part_played, part_kept, ready_next, turn_next, walk_done}
use Rattle.search.specs.Runs.{skip_up, skip_down, end_ready, end_one}
use Rattle.search.proofs.Tables.+best.Goals.{In-Some, Then-is_empty, After-better-most, After-best-most}
use Rattle.search.proofs.Tables.+best.Goals as goal

-- no letter is there: one split is left
pub better-requires : goal.better-requires
better-requires t c =
    rw (← c.requires.rack) (end_ready _ _ _ _ _ _ _ c.requires.ready.letters c.in-None.ensures c.requires.ready)

pub returns-in-None : goal.returns-in-None
returns-in-None t c =
    let v = c.better in
    rw (to_z-of_z w32 v.result (record { sfits = v.type_inv }))
    (end_one _ _ _ _ _ _ _ c.requires.ready.letters c.in-None.ensures (rw (to_z-of_z w32 c.args.best c.ranges.best, ← c.requires.rack) at v.ensures))

-- what the walk is given, from the last letter that is there
ready : (t : ℕ) (c : goal.In-Some t)
    → Ready c.args.self.now.sheet.now c.args.self.now.leave.now c.args.runs.tally.now c.in-Some.last.stop c.args.played.tiles c.args.played.before c.args.kept.tiles c.args.kept.before
ready t c = skip_down _ _ _ _ _ _ _ c.in-Some.ensures.inside c.in-Some.ensures.absent c.requires.ready

-- the same where no other letter is there
alone : (t : ℕ) (c : goal.Then-is_empty t) → present (take (c.in-Some.last.stop - 1) c.args.runs.tally.now) ≡ 0
alone t c = rw (c.in-Some.ensures.same, c.in-Some.ensures.before) at (c.if-is_empty.ensures.0 refl)

pub with-p-requires-clause-tiles : goal.with-p-requires-clause-tiles
with-p-requires-clause-tiles t c = (part_played (ready t (goal.at.with-p-requires-clause-tiles t c).In-Some) c.in-Some.ensures.some c.in-Some.ensures.counted c.loop-count-test.true (omega (arith, c.well_formed))).0

pub with-p-requires-clause-fits : goal.with-p-requires-clause-fits
with-p-requires-clause-fits t c = (part_played (ready t (goal.at.with-p-requires-clause-fits t c).In-Some) c.in-Some.ensures.some c.in-Some.ensures.counted c.loop-count-test.true (omega (arith, c.well_formed))).1

pub with-k-requires-clause-tiles : goal.with-k-requires-clause-tiles
with-k-requires-clause-tiles t c = (part_kept (ready t (goal.at.with-k-requires-clause-tiles t c).In-Some) c.in-Some.ensures.some c.in-Some.ensures.counted c.loop-count-test.true (omega (arith, c.well_formed))).0

pub with-k-requires-clause-fits : goal.with-k-requires-clause-fits
with-k-requires-clause-fits t c = (part_kept (ready t (goal.at.with-k-requires-clause-fits t c).In-Some) c.in-Some.ensures.some c.in-Some.ensures.counted c.loop-count-test.true (omega (arith, c.well_formed))).1

pub better-most-requires : goal.better-most-requires
better-most-requires t c =
    let run = c.in-Some.ensures in
    let next = ready_next (ready t (goal.at.better-most-requires t c).In-Some) run.some run.counted c.loop-count-test.true c.with-p.ensures.before c.with-k.ensures.before in
    rw (← c.requires.rack, c.with-p.ensures.tiles, c.with-k.ensures.tiles)
    (end_ready _ _ _ _ _ _ _ next.letters (alone t (goal.at.better-most-requires t c).Then-is_empty) next)

-- after a turn: the greatest of the turns up to it
turned : (t : ℕ) (c : goal.After-better-most t)
    → Greatest c.args.best (Turns c.args.self.now.sheet.now c.args.self.now.leave.now (length c.args.runs.tally.now) (take (c.in-Some.last.stop - 1) c.args.runs.tally.now) c.in-Some.last.count (length c.args.runs.tally.now - c.in-Some.last.stop) c.args.played.tiles c.args.played.before c.args.kept.tiles c.args.kept.before (c.loop-count.count + 1)) c.better-most.result
turned t c =
    let run = c.in-Some.ensures in
    let r = ready t (goal.at.After-better-most t c).In-Some in
    let next = ready_next r run.some run.counted c.loop-count-test.true c.with-p.ensures.before c.with-k.ensures.before in
    turns_more _ _ _ _ _ _ _ _ _ _ _
    (rw (to_z-of_z w32 c.args.best c.ranges.best) at c.loop-count.invariant.1)
    (turn_next r run.some run.counted c.loop-count-test.true c.with-p.ensures.before c.with-k.ensures.before
    (end_one _ _ _ _ _ _ _ next.letters (alone t (goal.at.After-better-most t c).Then-is_empty)
    (rw (← c.requires.rack, c.with-p.ensures.tiles, c.with-k.ensures.tiles) at c.better-most.ensures)))

pub loop-count-preserved : goal.loop-count-preserved
loop-count-preserved t c =
    let v = c.better-most in
    (omega arith, rw (to_z-of_z w32 v.result (record { sfits = v.type_inv }), to_z-of_z w32 c.args.best c.ranges.best) (turned t (goal.at.loop-count-preserved t c).After-better-most))

pub returns-then-is_empty-2 : goal.returns-then-is_empty-2
returns-then-is_empty-2 t c =
    let v = c.better-most in
    let run = c.in-Some.ensures in
    rw (to_z-of_z w32 v.result (record { sfits = v.type_inv }))
    (skip_up _ _ _ _ _ _ _ run.inside c.requires.ready.letters run.absent
    (walk_done (ready t (goal.at.returns-then-is_empty-2 t c).In-Some) run.some run.counted (c.loop-count.count + 1) (omega arith) (turned t (goal.at.returns-then-is_empty-2 t c).After-better-most)))

-- the same for a turn that splits the letters before

pub with-p-requires-in-loop-count-2-clause-tiles : goal.with-p-requires-in-loop-count-2-clause-tiles
with-p-requires-in-loop-count-2-clause-tiles t c = (part_played (ready t (goal.at.with-p-requires-in-loop-count-2-clause-tiles t c).In-Some) c.in-Some.ensures.some c.in-Some.ensures.counted c.loop-count-2-test.true (omega (arith, c.well_formed))).0

pub with-p-requires-in-loop-count-2-clause-fits : goal.with-p-requires-in-loop-count-2-clause-fits
with-p-requires-in-loop-count-2-clause-fits t c = (part_played (ready t (goal.at.with-p-requires-in-loop-count-2-clause-fits t c).In-Some) c.in-Some.ensures.some c.in-Some.ensures.counted c.loop-count-2-test.true (omega (arith, c.well_formed))).1

pub with-k-requires-in-loop-count-2-clause-tiles : goal.with-k-requires-in-loop-count-2-clause-tiles
with-k-requires-in-loop-count-2-clause-tiles t c = (part_kept (ready t (goal.at.with-k-requires-in-loop-count-2-clause-tiles t c).In-Some) c.in-Some.ensures.some c.in-Some.ensures.counted c.loop-count-2-test.true (omega (arith, c.well_formed))).0

pub with-k-requires-in-loop-count-2-clause-fits : goal.with-k-requires-in-loop-count-2-clause-fits
with-k-requires-in-loop-count-2-clause-fits t c = (part_kept (ready t (goal.at.with-k-requires-in-loop-count-2-clause-fits t c).In-Some) c.in-Some.ensures.some c.in-Some.ensures.counted c.loop-count-2-test.true (omega (arith, c.well_formed))).1

pub best-most-requires : goal.best-most-requires
best-most-requires t c =
    let run = c.in-Some.ensures in
    let some = run.some in
    let next = ready_next (ready t (goal.at.best-most-requires t c).In-Some) some run.counted c.loop-count-2-test.true c.with-p-in-loop-count-2.ensures.before c.with-k-in-loop-count-2.ensures.before in (
      omega (arith, c.decreases, run.inside, run.before),
      (rw run.same c.requires.rack, rw (run.same, run.before, c.with-p-in-loop-count-2.ensures.tiles, c.with-k-in-loop-count-2.ensures.tiles) next),
    )

turned_on : (t : ℕ) (c : goal.After-best-most t)
    → Greatest c.args.best (Turns c.args.self.now.sheet.now c.args.self.now.leave.now (length c.args.runs.tally.now) (take (c.in-Some.last.stop - 1) c.args.runs.tally.now) c.in-Some.last.count (length c.args.runs.tally.now - c.in-Some.last.stop) c.args.played.tiles c.args.played.before c.args.kept.tiles c.args.kept.before (c.loop-count-2.count + 1)) c.best-most.result
turned_on t c =
    let run = c.in-Some.ensures in
    turns_more _ _ _ _ _ _ _ _ _ _ _
    (rw (to_z-of_z w32 c.args.best c.ranges.best) at c.loop-count-2.invariant.1)
    (turn_next (ready t (goal.at.After-best-most t c).In-Some) run.some run.counted c.loop-count-2-test.true c.with-p-in-loop-count-2.ensures.before c.with-k-in-loop-count-2.ensures.before
    (rw (run.same, run.before, c.with-p-in-loop-count-2.ensures.tiles, c.with-k-in-loop-count-2.ensures.tiles) at c.best-most.ensures))

pub loop-count-2-preserved : goal.loop-count-2-preserved
loop-count-2-preserved t c =
    let v = c.best-most in
    (omega arith, rw (to_z-of_z w32 v.result (record { sfits = v.type_inv }), to_z-of_z w32 c.args.best c.ranges.best) (turned_on t (goal.at.loop-count-2-preserved t c).After-best-most))

pub returns-else-is_empty-2 : goal.returns-else-is_empty-2
returns-else-is_empty-2 t c =
    let v = c.best-most in
    let run = c.in-Some.ensures in
    rw (to_z-of_z w32 v.result (record { sfits = v.type_inv }))
    (skip_up _ _ _ _ _ _ _ run.inside c.requires.ready.letters run.absent
    (walk_done (ready t (goal.at.returns-else-is_empty-2 t c).In-Some) run.some run.counted (c.loop-count-2.count + 1) (omega arith) (turned_on t (goal.at.returns-else-is_empty-2 t c).After-best-most)))

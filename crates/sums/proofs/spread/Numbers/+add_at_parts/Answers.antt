-- the measure is the number of letters left; the turns so far are done, in both tables
use Rattle.std.proofs.Common.{ℕ, ◌+◌, ◌<◌, refl, ap, arith}
use Rattle.runs.specs.Runs.{Absent, none_present}
use Rattle.sums.specs.Spread.{Ready}
use Rattle.sums.proofs.Spreading.{turned_none, turned_more, ready_rank, room, ready_next, fits_next, walk_turn, walk_done, walk_whole, skip_up, skip_down}
use Rattle.sums.proofs.spread.Numbers.+add_at_parts.Goals.{In-None, In-Some}
use Rattle.sums.proofs.spread.Numbers.+add_at_parts.Goals as goal

-- no letter is there: both ranks have 32 bits
none : (t : ℕ) (c : goal.In-None t) → Absent c.args.runs.tally.now 0 c.args.runs.stop
none t c = none_present c.args.runs.tally.now c.args.runs.stop c.requires.part.letters c.in-None.ensures

last_part : (t : ℕ) (c : goal.In-None t) → Ready c.args.runs.tally.now 0 c.args.part.tiles c.args.part.before
last_part t c = skip_down (omega arith) (none t c) c.requires.part

last_rack : (t : ℕ) (c : goal.In-None t) → Ready c.args.runs.tally.now 0 c.args.rack.tiles c.args.rack.before
last_rack t c = skip_down (omega arith) (none t c) c.requires.rack

-- what the walk is given, from the last letter that is there
part : (t : ℕ) (c : goal.In-Some t) → Ready c.args.runs.tally.now c.in-Some.last.stop c.args.part.tiles c.args.part.before
part t c = skip_down c.in-Some.ensures.inside c.in-Some.ensures.absent c.requires.part

rack : (t : ℕ) (c : goal.In-Some t) → Ready c.args.runs.tally.now c.in-Some.last.stop c.args.rack.tiles c.args.rack.before
rack t c = skip_down c.in-Some.ensures.inside c.in-Some.ensures.absent c.requires.rack

pub overflow_add-at : goal.overflow_add-at
overflow_add-at t c = omega (arith, ready_rank (last_part t (goal.at.overflow_add-at t c).In-None) refl, c.size_start.ensures)

pub overflow_add-from : goal.overflow_add-from
overflow_add-from t c = omega (arith, ready_rank (last_rack t (goal.at.overflow_add-from t c).In-None) refl, c.size_start-in-None.ensures)

pub add_part-requires-clause-racks : goal.add_part-requires-clause-racks
add_part-requires-clause-racks t c =
    omega (arith, ready_rank (last_rack t (goal.at.add_part-requires-clause-racks t c).In-None) refl, c.size_start-in-None.ensures)

pub add_part-requires-in-None-clause-racks : goal.add_part-requires-in-None-clause-racks
add_part-requires-in-None-clause-racks t c =
    omega (arith, ready_rank (last_rack t (goal.at.add_part-requires-in-None-clause-racks t c).In-None) refl, c.size_start-in-None.ensures)

pub loop-c-init : goal.loop-c-init
loop-c-init t c = (omega arith, turned_none _ _ _, turned_none _ _ _)

pub with-p-requires-clause-tiles : goal.with-p-requires-clause-tiles
with-p-requires-clause-tiles t c =
    let run = c.in-Some.ensures in
    (room (part t (goal.at.with-p-requires-clause-tiles t c).In-Some) run.some run.counted {x = c.loop-c.c} (omega arith)).0

pub with-p-requires-clause-fits : goal.with-p-requires-clause-fits
with-p-requires-clause-fits t c =
    let run = c.in-Some.ensures in
    fits_next (part t (goal.at.with-p-requires-clause-fits t c).In-Some) run.some run.counted {x = c.loop-c.c} (omega arith)

pub with-q-requires-clause-tiles : goal.with-q-requires-clause-tiles
with-q-requires-clause-tiles t c =
    let run = c.in-Some.ensures in
    (room (rack t (goal.at.with-q-requires-clause-tiles t c).In-Some) run.some run.counted {x = c.loop-c.c} (omega arith)).0

pub with-q-requires-clause-fits : goal.with-q-requires-clause-fits
with-q-requires-clause-fits t c =
    let run = c.in-Some.ensures in
    fits_next (rack t (goal.at.with-q-requires-clause-fits t c).In-Some) run.some run.counted {x = c.loop-c.c} (omega arith)

pub add_at_parts-requires : goal.add_at_parts-requires
add_at_parts-requires t c =
    let run = c.in-Some.ensures in
    let d = (goal.at.add_at_parts-requires t c).In-Some in
    let taken : c.loop-c.c < c.in-Some.last.count + 1 = omega arith in (
      omega (arith, c.decreases, run.inside, run.before, run.some),
      (
        rw (run.same, run.before, c.with-p.ensures.tiles) (ready_next (part t d) run.some run.counted taken c.with-p.ensures.before),
        rw (run.same, run.before, c.with-q.ensures.tiles) (ready_next (rack t d) run.some run.counted taken c.with-q.ensures.before),
      ),
    )

pub loop-c-preserved : goal.loop-c-preserved
loop-c-preserved t c =
    let l = c.loop-c.invariant in
    let v = rw (c.in-Some.ensures.same, c.with-p.ensures.tiles, c.with-q.ensures.tiles) at c.add_at_parts.ensures in
    let e = c.with-p.ensures.before in
    let f = c.with-q.ensures.before in
    (omega arith, turned_more l.1 (walk_turn _ _ _ _ _ _ _ _ _ _ _ _ e f v.num), turned_more l.2 (walk_turn _ _ _ _ _ _ _ _ _ _ _ _ e f v.den))

pub returns-in-None : goal.returns-in-None
returns-in-None t c =
    let absent = none t (goal.at.returns-in-None t c).In-None in
    let letters = c.requires.part.letters in
    let e = ap (λ (x : ℕ). x + c.args.part.before) c.size_start.ensures in
    let f = ap (λ (x : ℕ). x + c.args.rack.before) c.size_start-in-None.ensures in
    record {
      num = skip_up _ _ _ _ _ _ _ _ _ (omega arith) letters absent (walk_whole _ _ _ _ _ _ _ _ _ e f c.add_part.ensures);
      den = skip_up _ _ _ _ _ _ _ _ _ (omega arith) letters absent (walk_whole _ _ _ _ _ _ _ _ _ e f c.add_part-in-None.ensures);
    }

pub returns-in-Some-2 : goal.returns-in-Some-2
returns-in-Some-2 t c =
    let run = c.in-Some.ensures in
    let letters = c.requires.part.letters in
    let l = c.loop-c.invariant in
    let v = rw (run.same, c.with-p.ensures.tiles, c.with-q.ensures.tiles) at c.add_at_parts.ensures in
    let e = c.with-p.ensures.before in
    let f = c.with-q.ensures.before in
    let num = rw run.before at (turned_more l.1 (walk_turn _ _ _ _ _ _ _ _ _ _ _ _ e f v.num)) in
    let den = rw run.before at (turned_more l.2 (walk_turn _ _ _ _ _ _ _ _ _ _ _ _ e f v.den)) in
    record {
      num = skip_up _ _ _ _ _ _ _ _ _ run.inside letters run.absent (walk_done _ _ _ _ _ _ _ _ run.some run.counted num (omega arith));
      den = skip_up _ _ _ _ _ _ _ _ _ run.inside letters run.absent (walk_done _ _ _ _ _ _ _ _ run.some run.counted den (omega arith));
    }

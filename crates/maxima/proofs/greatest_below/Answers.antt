-- `maxima::greatest_below` meets its contract. Assumes nothing.
use Rattle.std.proofs.Common.{sym, ap, ◌∙◌, subst, arith, take}
use Prim.Native.Nat.{◌-◌, ◌<◌, ◌≤◌}
use lib.ListN.{length, get_or}
use mir.Syntax.{w32}
use mir.ValLaws.{to_z-of_z}
use Rattle.laws.specs.Greatest.{Greatest}
use Rattle.laws.specs.Integer.{back, max_ℤ, at_ℤ}
use Rattle.runs.specs.Runs.{Absent, none_present, present, RunAt}
use Rattle.maxima.specs.Places.{places_absent, greatest_absent, run_below, run_places, run_greatest}
use Rattle.maxima.proofs.Laws.{max_same, split_run}
use Rattle.maxima.proofs.greatest_below.Goals.{In-Some, In_default}
use Rattle.maxima.proofs.greatest_below.Goals as goal

-- the letter found
module _ (c : goal.In-Some) where
  run : RunAt c.args.runs.tally.now c.loop-last.rest.stop c.in-Some.last.stop (present (take (c.in-Some.last.stop - 1) c.args.runs.tally.now))
  run = split_run (rw c.loop-last.invariant.0 at c.in-Some.ensures)

  end : c.loop-last.rest.stop ≤ length c.args.runs.tally.now
  end = rw c.loop-last.invariant.0 at c.loop-last.rest.inside

  place : get_or c.loop-last.at (c.in-Some.last.stop - 1) 0 < length c.args.m.now
  place = omega (arith, run_below run end c.loop-last.invariant.1, c.requires.inside)

pub overflow_add-at : goal.overflow_add-at
overflow_add-at c = omega (arith, place (goal.at.overflow_add-at c).In-Some)

pub offset_bounds-m-j : goal.offset_bounds-m-j
offset_bounds-m-j c = omega (arith, place (goal.at.offset_bounds-m-j c).In-Some)

pub bounds-m-j : goal.bounds-m-j
bounds-m-j c = place (goal.at.bounds-m-j c).In-Some

pub loop-last-preserved : goal.loop-last-preserved
loop-last-preserved c =
    let inv = c.loop-last.invariant in
    let split = c.in-Some.ensures in
    let found = run (goal.at.loop-last-preserved c).In-Some in
    let inside = end (goal.at.loop-last-preserved c).In-Some in
    let entry = at_ℤ c.args.m.now (get_or c.loop-last.at (c.in-Some.last.stop - 1) 0) in
    let m = c.max-best in
    let best = back m.result m.type_inv ∙ m.ensures.value ∙ max_same _ _ ∙ ap (max_ℤ _) (back entry (omega arith)) in
    (split.same ∙ inv.0, rw split.before (run_places found inside inv.1), rw split.before (subst (Greatest _ _) (sym best) (run_greatest found inside inv.1 inv.2)))

-- no letter is left
none : (c : goal.In_default) → Absent c.args.runs.tally.now 0 c.loop-last.rest.stop
none c =
    let inside : c.loop-last.rest.stop ≤ length c.args.runs.tally.now = rw c.loop-last.invariant.0 at c.loop-last.rest.inside in
    none_present _ _ inside (rw c.loop-last.invariant.0 at c.in_default.ensures)

pub returns-clause-greatest : goal.returns-clause-greatest
returns-clause-greatest c =
    rw (to_z-of_z w32 c.args.own c.ranges.own) at (greatest_absent (none (goal.at.returns-clause-greatest c).In_default) (omega arith) c.loop-last.invariant.2)

pub returns-clause-places : goal.returns-clause-places
returns-clause-places c = places_absent (none (goal.at.returns-clause-places c).In_default) (omega arith) c.loop-last.invariant.1

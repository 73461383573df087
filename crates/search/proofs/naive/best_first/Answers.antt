use Rattle.std.proofs.Common.{◌≡◌, length, w32, to_z, of_z, rules}
use mir.ValLaws.{to_z-of_z}
use Rattle.laws.specs.Integer.{lt_z_true, lt_z_false}
use Rattle.laws.specs.Greatest.{GreatestBy}
use Rattle.search.specs.Order.{KeptLe}
use Rattle.search.specs.BestKeep.{no_leave}
use Rattle.search.specs.Best.{held_ready}
use Rattle.search.specs.NaiveWalk.{Marks, place_start, whole_walk, first_in, first_out}
use Rattle.search.proofs.naive.best_first.Goals.{After-first-found}
use Rattle.search.proofs.naive.best_first.Goals as goal

pub first-found-requires-clause-ready : goal.first-found-requires-clause-ready
first-found-requires-clause-ready c = rw (c.of-tables.ensures.sheet, c.of-tables.ensures.leave) (held_ready c.requires)

pub first-found-requires-clause-places : goal.first-found-requires-clause-places
first-found-requires-clause-places c = place_start c.args.tally.now c.requires.tiles

-- the value that is found, as it is read
same : (c : goal.After-first-found) → to_z w32 (of_z w32 c.first-found.result.value) ≡ c.first-found.result.value
same c = to_z-of_z w32 c.first-found.result.value (search rules)

walked : (c : goal.After-first-found) → GreatestBy KeptLe no_leave (Marks c.args.sheet.now c.args.leave.now (length c.args.tally.now) c.args.tally.now 0 0 0 0 0 0 1) c.first-found.result
walked c = whole_walk (rw (c.of-tables.ensures.sheet, c.of-tables.ensures.leave) at c.first-found.ensures)

pub returns-then-found-lt-BEYOND : goal.returns-then-found-lt-BEYOND
returns-then-found-lt-BEYOND c =
    let d = (goal.at.returns-then-found-lt-BEYOND c).After-first-found in
    first_in _ _ _ _ (walked d) (lt_z_true (rw (same d) at c.if-found-lt-BEYOND.true))

pub returns-else-found-lt-BEYOND : goal.returns-else-found-lt-BEYOND
returns-else-found-lt-BEYOND c =
    let d = (goal.at.returns-else-found-lt-BEYOND c).After-first-found in
    first_out _ _ _ _ (walked d) (lt_z_false (rw (same d) at c.if-found-lt-BEYOND.false))

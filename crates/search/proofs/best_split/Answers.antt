use Rattle.std.proofs.Common.{◌≡◌, length, w32, to_z, of_z, ◌∙◌}
use mir.ValLaws.{to_z-of_z}
use Rattle.laws.specs.Integer.{lt_z_true, lt_z_false}
use Rattle.search.specs.Split.{found}
use Rattle.search.specs.Best.{held_ready, held_best, found_in, found_out}
use Rattle.search.proofs.best_split.Goals.{After-best-most}
use Rattle.search.proofs.best_split.Goals as goal

pub best-most-requires-clause-ready : goal.best-most-requires-clause-ready
best-most-requires-clause-ready c =
    rw (c.of-tables.ensures.sheet, c.of-tables.ensures.leave, c.of.ensures.tally, c.of.ensures.stop) (held_ready c.requires)

-- what the walk finds, as it is read
most : (c : goal.After-best-most) → to_z w32 (of_z w32 c.best-most.result) ≡ found c.args.sheet.now c.args.leave.now (length c.args.tally.now) c.args.tally.now
most c =
    let v = c.best-most in
    to_z-of_z w32 v.result (record { sfits = v.type_inv })
    ∙ held_best _ _ _ (rw (c.of-tables.ensures.sheet, c.of-tables.ensures.leave, c.of.ensures.tally, c.of.ensures.stop) at v.ensures)

pub returns-then-most-lt-BEYOND : goal.returns-then-most-lt-BEYOND
returns-then-most-lt-BEYOND c =
    found_in _ _ _ _ (most (goal.at.returns-then-most-lt-BEYOND c).After-best-most) (lt_z_true c.if-most-lt-BEYOND.true)

pub returns-else-most-lt-BEYOND : goal.returns-else-most-lt-BEYOND
returns-else-most-lt-BEYOND c =
    let e = found_out _ _ _ _ (most (goal.at.returns-else-most-lt-BEYOND c).After-best-most) (lt_z_false c.if-most-lt-BEYOND.false) in
    λ f. cc

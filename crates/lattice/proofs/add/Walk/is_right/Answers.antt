-- `lattice::add::Walk::is_right` meets its contract. The first letters by the row before, the others by the walk down from there. Assumes nothing.
use Rattle.std.proofs.Common.{◌≡◌, take, ap, ◌∙◌, zero-add, arith, length-take-le}
use mathlib.Core.Bool.{false≢true}
use Rattle.lattice.specs.AddRows.{lowered, Row}
use Rattle.lattice.specs.AddRow.{row_top}
use Rattle.lattice.proofs.AddWalk.{row_known}
use Rattle.lattice.proofs.AddNext.{before_room, rest_row, rest_level, rest_decides, first_right, first_follows}
use Rattle.lattice.proofs.add.Walk.is_right.Goals.{Start, After-after}
use Rattle.lattice.proofs.add.Walk.is_right.Goals as goal

known : (c : goal.Start) → Row (row_top c.args.self.now.sizes.n c.args.self.now.rank (take c.args.self.now.sizes.n c.args.self.now.tails)) (take c.args.self.now.sizes.n c.args.self.now.tails)
known c =
    let w = c.args.self.now in
    row_known w.sizes.n w.sizes.r w.served w.rank (take w.sizes.n w.tails) c.requires.leave w.tails_of

pub follows_close-requires-clause-fits : goal.follows_close-requires-clause-fits
follows_close-requires-clause-fits c k h = rw zero-add at (before_room (known (goal.at.follows_close-requires-clause-fits c).Start) c.requires.before k (omega arith))

-- where the walk down stands after the first letters
stands : (c : goal.After-after) → c.after.result ≡ lowered (row_top c.args.self.now.sizes.n c.args.self.now.rank (take c.args.self.now.sizes.n c.args.self.now.tails)) (take c.args.self.now.sizes.n c.args.self.now.tails) c.args.self.now.kept
stands c =
    let w = c.args.self.now in
    c.after.ensures ∙ ap (lowered (row_top w.sizes.n w.rank (take w.sizes.n w.tails)) (take w.sizes.n w.tails)) (length-take-le w.kept c.args.row.now (omega (arith, c.requires.size, w.some_new)))

pub returns-then-not-follows_close : goal.returns-then-not-follows_close
returns-then-not-follows_close c = record {
  yes = λ x. absurd (false≢true x);
  no = λ x right. c.follows_close.ensures.no c.if-not-follows_close.true (first_follows c.args.self.now.kept c.args.row.now c.requires.kept c.requires.before right);
}

pub rest_is_right-requires-clause-row : goal.rest_is_right-requires-clause-row
rest_is_right-requires-clause-row c =
    let w = c.args.self.now in
    rest_row _ w.sizes.n w.kept w.tails (omega (arith, w.some_new)) (stands (goal.at.rest_is_right-requires-clause-row c).After-after) (known (goal.at.rest_is_right-requires-clause-row c).Start)

pub rest_is_right-requires-clause-level : goal.rest_is_right-requires-clause-level
rest_is_right-requires-clause-level c = rest_level 0 c.args.self.now.sizes.n c.args.self.now.kept c.args.self.now.tails (omega (arith, c.args.self.now.some_new)) c.args.self.now.level

pub returns : goal.returns
returns c =
    let w = c.args.self.now in
    rest_decides _ w.sizes.n w.kept w.tails (omega (arith, w.some_new)) c.args.row.now (stands (goal.at.returns c).After-after)
    (first_right w.kept c.args.row.now c.requires.kept c.requires.before (c.follows_close.ensures.yes c.if-not-follows_close.false)) c.rest_is_right.ensures

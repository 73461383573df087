-- `lattice::add::Walk::put` meets its contract. The first letters from the row before, the others by the walk down from there. Assumes nothing.
use Rattle.std.proofs.Common.{◌≡◌, take, ap, ◌∙◌, arith}
use Rattle.lattice.specs.AddRows.{lowered, Row}
use Rattle.lattice.specs.AddRow.{row_top}
use Rattle.lattice.proofs.AddWalk.{row_known}
use Rattle.lattice.proofs.AddNext.{before_room, rest_row, rest_put}
use Rattle.lattice.proofs.AddClose.{part_length}
use Rattle.lattice.proofs.add.Walk.put.Goals.{Start, After-after-above}
use Rattle.lattice.proofs.add.Walk.put.Goals as goal

known : (c : goal.Start) → Row (row_top c.args.self.now.sizes.n c.args.self.now.rank (take c.args.self.now.sizes.n c.args.self.now.tails)) (take c.args.self.now.sizes.n c.args.self.now.tails)
known c =
    let w = c.args.self.now in
    row_known w.sizes.n w.sizes.r w.served w.rank (take w.sizes.n w.tails) c.requires.leave w.tails_of

-- where the walk down stands after the first letters
stands : (c : goal.After-after-above) → c.after-above.result ≡ lowered (row_top c.args.self.now.sizes.n c.args.self.now.rank (take c.args.self.now.sizes.n c.args.self.now.tails)) (take c.args.self.now.sizes.n c.args.self.now.tails) c.args.self.now.kept
stands c =
    let w = c.args.self.now in
    c.after-above.ensures ∙ ap (lowered (row_top w.sizes.n w.rank (take w.sizes.n w.tails)) (take w.sizes.n w.tails)) (part_length c.args.at w.kept c.lift_row.new.add (omega (arith, c.lift_row.ensures.size, c.requires.room, w.some_new)))

pub lift_row-requires-clause-fits : goal.lift_row-requires-clause-fits
lift_row-requires-clause-fits c = before_room (known (goal.at.lift_row-requires-clause-fits c).Start) c.requires.before

pub put_row-requires-clause-row : goal.put_row-requires-clause-row
put_row-requires-clause-row c =
    let w = c.args.self.now in
    rest_row _ w.sizes.n w.kept w.tails (omega (arith, w.some_new)) (stands (goal.at.put_row-requires-clause-row c).After-after-above) (known (goal.at.put_row-requires-clause-row c).Start)

pub returns : goal.returns
returns c =
    let w = c.args.self.now in
    rest_put _ w.sizes.n w.kept w.tails (omega (arith, w.some_new)) (stands (goal.at.returns c).After-after-above) c.requires.before c.lift_row.ensures c.put_row.ensures

-- `lattice::add::Walk::after` meets its contract. With no entry the walk down is at its top. Assumes nothing.
use Rattle.std.proofs.Common.{◌≡◌, ◌+◌, ◌<◌, ◌≤◌, get_or, length, take, arith, get_or-take}
use Rattle.std.proofs.lemmas.Grind.{common_steps}
use Rattle.lattice.specs.AddRows.{lowered_zero}
use Rattle.lattice.specs.AddRow.{top}
use Rattle.lattice.proofs.AddWalk.{tiles_few, top_fits, top_sum}
use Rattle.lattice.proofs.add.Walk.after.Goals.{In-None}
use Rattle.lattice.proofs.add.Walk.after.Goals as goal

tiles : (c : goal.In-None) → get_or c.args.self.now.tails 0 0 + 1 ≤ 16
tiles c =
    let w = c.args.self.now in
    omega (arith, get_or-take w.sizes.n w.tails 0 0 w.served.some_letter, tiles_few w.sizes.n w.sizes.r w.served w.rank (take w.sizes.n w.tails) c.requires.leave w.tails_of)

fits : (c : goal.In-None) → top c.args.self.now.sizes.n c.args.self.now.rank (get_or c.args.self.now.tails 0 0) < 8589934592
fits c =
    let w = c.args.self.now in
    rw (get_or-take w.sizes.n w.tails 0 0 w.served.some_letter) at (top_fits w.sizes.n w.sizes.r w.served w.rank (take w.sizes.n w.tails) c.requires.leave w.tails_of)

pub choose-requires-clause-tiles : goal.choose-requires-clause-tiles
choose-requires-clause-tiles c = tiles (goal.at.choose-requires-clause-tiles c).In-None

pub overflow_add-result : goal.overflow_add-result
overflow_add-result c = omega (arith, fits (goal.at.overflow_add-result c).In-None)

pub choose-requires-in-None-clause-tiles : goal.choose-requires-in-None-clause-tiles
choose-requires-in-None-clause-tiles c = omega (arith, tiles (goal.at.choose-requires-in-None-clause-tiles c).In-None)

pub overflow_add-result-in-None : goal.overflow_add-result-in-None
overflow_add-result-in-None c = omega (arith, fits (goal.at.overflow_add-result-in-None c).In-None)

pub returns-in-None : goal.returns-in-None
returns-in-None c =
    let w = c.args.self.now in
    let none : length c.args.first.now ≡ 0 = grind (arith, common_steps) in
    rw (none, lowered_zero) (top_sum w.sizes.n w.rank w.tails w.served.some_letter c.choose.ensures c.choose-in-None.ensures)

-- `lattice::add::Walk::advance` meets its contract: a step to the next rank, which tells of the next row what the row before says. Assumes nothing.
use Rattle.std.proofs.Common.{◌≡◌, length, take, add-one, arith, length-take-le}
use Rattle.lattice.proofs.AddWalk.{leaves_small, few_tiles, row_known, tails_fall, walk_step}
use Rattle.lattice.proofs.AddNext.{row_before}
use Rattle.lattice.proofs.add.Walk.advance.Goals as goal

pub overflow_add-self : goal.overflow_add-self
overflow_add-self c =
    let w = c.args.self.now in
    omega (arith, c.requires, leaves_small w.sizes.n w.sizes.r w.served)

pub step-self-requires-clause-few : goal.step-self-requires-clause-few
step-self-requires-clause-few c =
    let w = c.args.self.now in
    omega (arith, few_tiles w.sizes.n w.sizes.r w.served w.rank (take w.sizes.n w.tails) c.requires w.tails_of, w.served.tiles)

pub step-self-requires-clause-falls : goal.step-self-requires-clause-falls
step-self-requires-clause-falls c =
    let w = c.args.self.now in
    tails_fall _ (take w.sizes.n w.tails) w.tails_of w.last w.last_of.inside

pub invariant_of-self : goal.invariant_of-self
invariant_of-self c =
    let w = c.args.self.now in
    let stepped = c.step-self.ensures in
    let letters : length (take w.sizes.n w.tails) ≡ w.sizes.n = length-take-le w.sizes.n w.tails (omega (arith, w.served.letters)) in
    record {
      served = w.served;
      inside = omega (arith, c.requires);
      tails_of = rw add-one (walk_step w.sizes.n w.sizes.r w.served w.rank (take w.sizes.n w.tails) c.requires w.tails_of _ stepped.advanced);
      last_of = stepped.last_of;
      some_new = omega (arith, letters, w.last_of.inside);
      level = stepped.level;
    }

pub returns-clause-before : goal.returns-clause-before
returns-clause-before c prior table right =
    let w = c.args.self.now in
    rw add-one
    (row_before w.sizes.n w.rank w.last _ prior (take w.sizes.n w.tails) _ table (row_known w.sizes.n w.sizes.r w.served w.rank (take w.sizes.n w.tails) c.requires w.tails_of) w.last_of c.step-self.ensures right)

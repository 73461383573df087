-- `lattice::add::fill_table` meets its contract. The invariant: the walk stands at `rank`, the rows below are right, and the row before tells of the first letters. Assumes nothing.
use Rattle.std.proofs.Common.{◌*◌, ◌∙◌, add-mul, one-mul, arith}
use Rattle.lattice.specs.Served.{facts}
use Rattle.lattice.proofs.AddWalk.{same_letters, same_tiles, more_written, table_done}
use Rattle.lattice.proofs.add.fill_table.Goals as goal

pub loop-rank-preserved : goal.loop-rank-preserved
loop-rank-preserved c =
    let a = c.args in
    let at = c.loop-rank in
    let w = at.walk in
    let known = at.invariant in
    let step = c.advance.ensures in
    record {
      letters = same_letters step.sizes ∙ known.letters;
      tiles = same_tiles step.sizes ∙ known.tiles;
      at = omega (arith, step.rank, known.at);
      size = c.put.ensures.size ∙ known.size;
      rows = more_written known.letters known.tiles known.at w.served w.tails_of (omega (arith, c.loop-rank-test.true, c.args.sizes.starts)) at.add _ known.rows c.put.ensures;
      before = step.before (at.rank * a.sizes.n) c.put.new.add c.put.ensures.row;
      apart = omega (arith, c.advance.new.self.some_new, same_letters step.sizes, known.letters, add-mul at.rank 1 a.sizes.n, one-mul a.sizes.n);
    }

pub returns : goal.returns
returns c =
    let a = c.args in
    let known = c.loop-rank.invariant in
    table_done a.sizes.n a.sizes.r (facts a.sizes.n a.sizes.r a.sizes.is_served) c.loop-rank.add (known.size ∙ c.requires) (λ j t x y. known.rows j t (omega (arith, c.args.sizes.starts, c.loop-rank-test.false)) y)

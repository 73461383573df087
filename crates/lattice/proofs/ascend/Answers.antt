use Rattle.std.proofs.Common.{sym, refl, ◌∙◌, arith, drop_of_length-le}
use Rattle.lattice.specs.Tiles.{ascends_nil}
use Rattle.lattice.proofs.Sparse.{ascends_more, ascends_wrong}
use Rattle.lattice.proofs.ascend.Goals.{then-letter-low-via-then-letter-low, then-letter-low-via-else-letter-low+then-n-letter}
use Rattle.lattice.proofs.ascend.Goals as goal

pub returns-then-letter-low : goal.returns-then-letter-low
returns-then-letter-low c =
    sym (c.loop-tile.invariant ∙ ascends_wrong _ _ _ _ c.loop-tile-test.true (λ from below. elim c.then-letter-low.branch [
      | then-letter-low-via-then-letter-low w ↦ omega (arith, w.if-letter-low.true, c.from-letter.ensures, from)
      | then-letter-low-via-else-letter-low+then-n-letter w ↦ omega (arith, w.if-n-letter.true, c.from-letter.ensures, below)
    ]))

pub loop-tile-preserved : goal.loop-tile-preserved
loop-tile-preserved c =
    c.loop-tile.invariant ∙ ascends_more _ _ _ _ c.loop-tile-test.true (omega (arith, c.if-letter-low.false, c.from-letter.ensures)) (omega (arith, c.if-n-letter.false, c.from-letter.ensures)) ∙ rw c.from-letter.ensures refl

pub returns : goal.returns
returns c = sym (c.loop-tile.invariant ∙ rw (drop_of_length-le c.args.letters.now {i = c.loop-tile.tile-index} (omega (arith, c.loop-tile-test.false))) (ascends_nil _ _))

-- `lattice::add::add_is_right` meets its contract. The invariant is that of `fill_table`; a row that is not right refutes the table. Assumes nothing.
use Rattle.std.proofs.Common.{ℕ, ◌*◌, take, ap, ◌∙◌, true≢false, arith}
use mathlib.Core.Bool.{false≢true}
use Rattle.lattice.specs.Tables.{up}
use Rattle.lattice.specs.Served.{facts}
use Rattle.lattice.specs.AddRows.{Decides, RowAt}
use Rattle.lattice.specs.AddRow.{row_top}
use Rattle.lattice.proofs.AddWalk.{same_letters, same_tiles, more_right, right_in, table_done, row_place, walk_letters}
use Rattle.lattice.proofs.AddClose.{decides_part}
use Rattle.lattice.proofs.add.add_is_right.Goals.{After-is_right}
use Rattle.lattice.proofs.add.add_is_right.Goals as goal

pub returns-then-add-entries : goal.returns-then-add-entries
returns-then-add-entries c = record {
  yes = λ x. absurd (false≢true x);
  no = λ x table. c.if-add-entries.true (rw c.entries.ensures table.rows);
}

-- what the judge of a row tells of the table
judged : (c : goal.After-is_right) → Decides c.is_right.result (RowAt (row_top c.loop-rank.walk.sizes.n c.loop-rank.walk.rank (take c.loop-rank.walk.sizes.n c.loop-rank.walk.tails)) (take c.loop-rank.walk.sizes.n c.loop-rank.walk.tails) (c.loop-rank.rank * c.args.sizes.n) c.args.add.now)
judged c =
    let at = c.loop-rank in
    decides_part _ _ (at.rank * c.args.sizes.n) c.args.sizes.n c.args.add.now _ (walk_letters at.walk.served at.walk.tails_of at.walk.inside ∙ at.invariant.letters) c.is_right.ensures

pub returns-then-not-is_right : goal.returns-then-not-is_right
returns-then-not-is_right c =
    let a = c.args in
    let at = c.loop-rank in
    let known = at.invariant in
    record {
      yes = λ x. absurd (false≢true x);
      no = λ x table. (judged (goal.at.returns-then-not-is_right c).After-is_right).no c.if-not-is_right.true
          (right_in known.letters known.tiles known.at at.walk.served at.walk.tails_of (omega (arith, c.loop-rank-test.true, c.args.sizes.starts)) (λ i t. up a.sizes.n a.add.now t i) table.entry);
    }

pub loop-rank-preserved : goal.loop-rank-preserved
loop-rank-preserved c =
    let a = c.args in
    let at = c.loop-rank in
    let known = at.invariant in
    let step = c.advance.ensures in
    let right = (judged (goal.at.loop-rank-preserved c).After-is_right).yes c.if-not-is_right.false in
    record {
      letters = same_letters step.sizes ∙ known.letters;
      tiles = same_tiles step.sizes ∙ known.tiles;
      at = omega (arith, step.rank, known.at);
      rows = more_right known.letters known.tiles known.at at.walk.served at.walk.tails_of (omega (arith, c.loop-rank-test.true, c.args.sizes.starts)) (λ i t. up a.sizes.n a.add.now t i) known.rows right;
      before = step.before (at.rank * a.sizes.n) a.add.now right;
      inside = omega (arith, c.advance.new.self.some_new, same_letters step.sizes, known.letters, row_place a.sizes.n _ at.rank c.loop-rank-test.true, c.if-add-entries.false, c.entries.ensures, ap (λ (k : ℕ). k * a.sizes.n) a.sizes.starts);
    }

pub returns : goal.returns
returns c =
    let a = c.args in
    let known = c.loop-rank.invariant in
    record {
      yes = λ x. table_done a.sizes.n a.sizes.r (facts a.sizes.n a.sizes.r c.args.sizes.is_served) a.add.now (c.if-add-entries.false ∙ c.entries.ensures) (λ j t x y. known.rows j t (omega (arith, c.args.sizes.starts, c.loop-rank-test.false)) y);
      no = λ x table. absurd (true≢false x);
    }

-- `lattice::add::by_letter_is_right` meets its contract. The invariant is that of `fill_table`, where the row before stands in `row`; a row that is not the same refutes the table. Assumes nothing.
use Rattle.std.proofs.Common.{◌≡◌, ℕ, ◌+◌, ◌*◌, ◌<◌, suc, length, get_or, take, ◌∙◌, mul_comm, true≢false, arith}
use mathlib.Core.Bool.{false≢true}
use Rattle.lattice.specs.Served.{facts}
use Rattle.lattice.specs.AddRows.{Decides, lowered}
use Rattle.lattice.specs.AddRow.{row_top}
use Rattle.lattice.proofs.AddWalk.{same_letters, same_tiles, more_right, right_in, rows_done, walk_letters}
use Rattle.lattice.proofs.AddNext.{decides_same}
use Rattle.lattice.proofs.add.by_letter_is_right.Goals.{After-row_is_same}
use Rattle.lattice.proofs.add.by_letter_is_right.Goals as goal

-- what the comparison tells of the table
judged : (c : goal.After-row_is_same) → Decides c.row_is_same.result ((k : ℕ) → k < length (take c.loop-rank.walk.sizes.n c.loop-rank.walk.tails) → get_or c.args.by_letter.now (k * c.args.sizes.leaves + c.loop-rank.rank) 0 ≡ lowered (row_top c.loop-rank.walk.sizes.n c.loop-rank.walk.rank (take c.loop-rank.walk.sizes.n c.loop-rank.walk.tails)) (take c.loop-rank.walk.sizes.n c.loop-rank.walk.tails) (suc k))
judged c =
    let at = c.loop-rank in
    decides_same _ _ c.args.sizes.n c.args.sizes.leaves at.rank _ _ c.args.by_letter.now _ (walk_letters at.walk.served at.walk.tails_of at.walk.inside ∙ at.invariant.letters) (omega (arith, at.walk.served.letters, at.invariant.letters)) c.put.ensures c.row_is_same.ensures

pub returns-then-not-row_is_same : goal.returns-then-not-row_is_same
returns-then-not-row_is_same c =
    let a = c.args in
    let at = c.loop-rank in
    let known = at.invariant in
    record {
      yes = λ x. absurd (false≢true x);
      no = λ x table. (judged (goal.at.returns-then-not-row_is_same c).After-row_is_same).no c.if-not-row_is_same.true
          (right_in known.letters known.tiles known.at at.walk.served at.walk.tails_of (omega (arith, c.loop-rank-test.true, c.args.sizes.starts)) (λ i t. get_or a.by_letter.now (t * a.sizes.leaves + i) 0) (rw c.args.sizes.starts table.entry));
    }

pub loop-rank-preserved : goal.loop-rank-preserved
loop-rank-preserved c =
    let a = c.args in
    let at = c.loop-rank in
    let known = at.invariant in
    let step = c.advance.ensures in
    let right = (judged (goal.at.loop-rank-preserved c).After-row_is_same).yes c.if-not-row_is_same.false in
    record {
      letters = same_letters step.sizes ∙ known.letters;
      tiles = same_tiles step.sizes ∙ known.tiles;
      at = omega (arith, step.rank, known.at);
      rows = more_right known.letters known.tiles known.at at.walk.served at.walk.tails_of (omega (arith, c.loop-rank-test.true, c.args.sizes.starts)) (λ i t. get_or a.by_letter.now (t * a.sizes.leaves + i) 0) known.rows right;
      before = step.before 0 _ c.put.ensures.row;
    }

pub returns : goal.returns
returns c =
    let a = c.args in
    let known = c.loop-rank.invariant in
    record {
      yes = λ x. record {
        rows = c.if-by_letter-entries.false ∙ c.entries.ensures ∙ mul_comm _ a.sizes.n;
        entry = rw (c.args.sizes.starts) at (rows_done a.sizes.n a.sizes.r (facts a.sizes.n a.sizes.r c.args.sizes.is_served) (λ i t. get_or a.by_letter.now (t * a.sizes.leaves + i) 0) (λ j t x y. known.rows j t (omega (arith, c.args.sizes.starts, c.loop-rank-test.false)) y));
      };
      no = λ x table. absurd (true≢false x);
    }

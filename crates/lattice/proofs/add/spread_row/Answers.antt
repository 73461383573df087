-- `lattice::add::spread_row` meets its contract. The invariant: the row is copied for the letters below t, and no other is changed. Assumes nothing.
use Rattle.std.proofs.Common.{◌+◌, ◌*◌, ◌<◌, ◌≤◌, length, ◌∙◌, arith, length-set}
use Rattle.lattice.proofs.AddClose.{part_length, part_at}
use Rattle.lattice.proofs.AddLetters.{place, spread_more, others_more}
use Rattle.lattice.proofs.AddWalk.{row_place}
use Rattle.lattice.proofs.add.spread_row.Goals as goal

pub loop-t-preserved : goal.loop-t-preserved
loop-t-preserved c =
    let a = c.args in
    let at = c.loop-t in
    let known = at.invariant in
    let whole : a.idx * a.n + a.n ≤ length a.add.now = omega (arith, row_place a.n a.rows a.idx c.requires.idx, c.requires.size) in
    let letter : at.t < a.n = omega (arith, part_length (a.idx * a.n) a.n a.add.now whole, c.loop-t-test.true) in
    let inside : at.t * a.rows + a.idx < length at.by_letter = omega (arith, place a.n a.rows at.t a.idx letter c.requires.idx, c.requires.same_size, known.size) in
    rw (part_at (a.idx * a.n) a.n a.add.now at.t letter) (record {
      size = length-set at.by_letter (at.t * a.rows + a.idx) _ ∙ known.size;
      same = λ t h. spread_more a.n a.rows a.idx at.t a.add.now at.by_letter inside c.requires.idx known.same t (omega arith);
      others = others_more a.n a.rows a.idx at.t a.add.now at.by_letter inside c.requires.idx a.by_letter.now known.others;
    })

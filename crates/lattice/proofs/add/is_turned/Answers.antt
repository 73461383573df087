-- `lattice::add::is_turned` meets its contract. A row that is not the same refutes the table. Assumes nothing.
use Rattle.std.proofs.Common.{◌+◌, ◌*◌, ◌<◌, ◌≤◌, length, sym, ◌∙◌, zero-add, arith}
use mathlib.Core.Bool.{false≢true}
use Rattle.lattice.proofs.AddWalk.{row_place}
use Rattle.lattice.proofs.AddClose.{part_length, part_at}
use Rattle.lattice.proofs.add.is_turned.Goals as goal

pub returns-then-not-row_is_same : goal.returns-then-not-row_is_same
returns-then-not-row_is_same c =
    let a = c.args in
    let idx = c.loop-idx.idx in
    let inside : idx * a.sizes.n + a.sizes.n ≤ length a.add.now = omega (arith, row_place a.sizes.n a.sizes.leaves idx c.loop-idx-test.true, c.requires) in
    record {
      yes = λ x. absurd (false≢true x);
      no = λ x turned. c.row_is_same.ensures.no c.if-not-row_is_same.true (λ t h.
          let s : t < a.sizes.n = omega (arith, part_length (idx * a.sizes.n) a.sizes.n a.add.now inside) in
          rw zero-add (turned.same idx c.loop-idx-test.true t s ∙ sym (part_at (idx * a.sizes.n) a.sizes.n a.add.now t s)));
    }

-- `lattice::triangle::next_row` meets its contract. The loop's invariant is `Making`: k entries of the next row are made. Assumes nothing.
use Rattle.std.proofs.Common.{◌+◌, get_or, refl, arith}
use Rattle.lattice.proofs.Rows.{making_starts, making_more, making_ends}
use Rattle.lattice.proofs.triangle.next_row.Goals.{else-loop-k-test, then-loop-k-test+else-k-n}
use Rattle.lattice.proofs.triangle.next_row.Goals as goal

pub loop-k-init : goal.loop-k-init
loop-k-init c = making_starts c.args.n c.args.at c.args.out.now

pub loop-k-preserved : goal.loop-k-preserved
loop-k-preserved c =
    let a = c.args in
    let l = c.loop-k in
    rw c.saturating_add.ensures (making_more a.n a.at a.out.now l.out l.k l.left c.requires.room c.requires.row l.invariant (get_or l.out (a.at + l.k) 0) (omega arith) refl)

pub returns : goal.returns
returns c =
    let a = c.args in
    let l = c.loop-k in
    elim c.loop-k-test.branch [
      | else-loop-k-test w ↦ absurd (omega (arith, w.loop-k-test.false))
      | then-loop-k-test+else-k-n w ↦
          let made = making_more a.n a.at a.out.now l.out l.k l.left c.requires.room c.requires.row l.invariant (get_or l.out (a.at + l.k) 0) (omega arith) refl in
          rw (w.out-is, w.saturating_add.ensures) (making_ends a.n a.at a.out.now _ (l.k + 1) _ c.requires.room c.requires.row made (omega arith))
    ]

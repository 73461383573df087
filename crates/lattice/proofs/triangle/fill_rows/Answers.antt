-- `lattice::triangle::fill_rows` meets its contract. The loop's invariant: the first n + 1 rows are filled. Assumes nothing.
use Rattle.std.proofs.Common.{sym, ◌∙◌, arith, length-set}
use Rattle.lattice.proofs.Rows.{row_start_zero, row_start_next, room, some_room, rows_more, row_one}
use Rattle.lattice.proofs.triangle.fill_rows.Goals as goal

pub bounds-out-0 : goal.bounds-out-0
bounds-out-0 c = omega (arith, some_room c.args.rows c.requires.some)

pub loop-n-init : goal.loop-n-init
loop-n-init c =
    let a = c.args in
    record {
      at = sym row_start_zero;
      size = length-set a.out.now 0 1 ∙ c.requires.size;
      rows = row_one a.out.now (omega (arith, some_room a.rows c.requires.some));
    }

pub next_row-requires-clause-room : goal.next_row-requires-clause-room
next_row-requires-clause-room c = omega (arith, room c.loop-n.n c.args.rows (omega arith))

pub overflow_add-at-in-loop-n : goal.overflow_add-at-in-loop-n
overflow_add-at-in-loop-n c = omega (arith, room c.loop-n.n c.args.rows (omega arith))

pub loop-n-preserved : goal.loop-n-preserved
loop-n-preserved c =
    let l = c.loop-n in
    let x = c.next_row in
    record {
      at = rw (row_start_next, l.invariant.at) (omega arith);
      size = x.auto.out ∙ l.invariant.size;
      rows = rows_more l.n l.out x.new.out l.invariant.rows (rw l.invariant.at at x.ensures);
    }

use Rattle.std.proofs.Common.{arith}
use Rattle.maxima.proofs.Laws.{max_by_rows, made_by_letters}
use Rattle.maxima.proofs.subset_max.Goals as goal

pub returns-clause-greatest : goal.returns-clause-greatest
returns-clause-greatest c =
    max_by_rows c.requires.starts c.requires.by_index c.requires.in_src c.copy.ensures c.lift_rows.ensures

pub returns-clause-by_letters : goal.returns-clause-by_letters
returns-clause-by_letters c =
    let r = c.requires in
    made_by_letters r.starts r.by_index _ r.in_src (omega arith) (max_by_rows r.starts r.by_index r.in_src c.copy.ensures c.lift_rows.ensures)

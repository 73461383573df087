-- `lattice::add::row_is_same` meets its contract. The invariant: `wrong` is 0 exactly where the row is the same for the letters below t. Assumes nothing.
use Rattle.std.proofs.Common.{◌+◌, ◌*◌, get_or}
use Rattle.lattice.proofs.AddStores.{gathered}
use Rattle.lattice.proofs.add.row_is_same.Goals as goal

pub loop-t-preserved : goal.loop-t-preserved
loop-t-preserved c =
    let a = c.args in
    let at = c.loop-t in
    gathered (λ j. get_or a.by_letter.now (j * a.rows + a.idx) 0) (λ j. get_or a.row.now j 0) at.t at.wrong at.invariant

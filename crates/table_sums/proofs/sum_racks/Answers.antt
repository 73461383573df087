-- `table_sums::sum_racks` meets its contract. Assumes nothing.
use Rattle.table_sums.proofs.Calls.{sums_filled}
use Rattle.table_sums.proofs.sum_racks.Goals as goal

pub returns : goal.returns
returns c =
    let a = c.fold_letters.ensures in
    let b = c.fold_letters-2.ensures in
    sums_filled c.requires c.fill_values.ensures a.size a.sums b.size b.sums

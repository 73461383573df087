-- `table_sums::deal_from` meets its contract. Assumes nothing.
use Rattle.table_sums.specs.Calls.{part_dealt}
use Rattle.table_sums.proofs.deal_from.Goals as goal

pub returns : goal.returns
returns c = part_dealt c.requires c.deal_racks.ensures

-- `fused::deal_racks` meets its contract: the walk from the first letter, or nothing where the pool has too few tiles. Assumes nothing.
use Rattle.whole.proofs.Steps.{one_literal}
use Rattle.fused.specs.Racks.{racks_dealt, racks_none}
use Rattle.fused.proofs.deal_racks.Goals as goal

pub returns-then-r-left : goal.returns-then-r-left
returns-then-r-left c = racks_dealt c.requires one_literal c.deal.ensures

pub returns-else-r-left : goal.returns-else-r-left
returns-else-r-left c =
    racks_none c.args.ways.now c.requires c.tiles_in-left.ensures c.if-r-left.false

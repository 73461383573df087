-- `table_sums::racks::clear_from` meets its contract. Assumes nothing.
use Rattle.whole.proofs.Steps.{zero_literal}
use Rattle.table_sums.specs.Racks.{cleared_part}
use Rattle.table_sums.proofs.racks.clear_from.Goals as goal

pub returns : goal.returns
returns c = cleared_part c.args.lo c.args.xs.now c.requires zero_literal (c.fill.ensures.after (λ y e. e))

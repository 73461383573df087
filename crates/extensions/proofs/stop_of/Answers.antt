-- `extensions::stop_of` meets its contract: the letters end after the last one that is there, and after the first where none is. Assumes nothing.
use Rattle.std.proofs.Common.{rules}
use Rattle.std.proofs.iter.runs.Made.{chains}
use Rattle.extensions.proofs.Laws.{stop_after, stop_alone}
use Rattle.extensions.proofs.stop_of.Goals as goal

pub returns-in-Some : goal.returns-in-Some
returns-in-Some c = stop_after c.args.tally.now c.in-Some.last (search (rules, chains)) (search (rules, chains)) (search (rules, chains))

pub returns-in-None : goal.returns-in-None
returns-in-None c = stop_alone c.args.tally.now c.requires (search (rules, chains))

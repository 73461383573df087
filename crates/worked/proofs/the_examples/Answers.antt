-- The contract is the theorem. Assumes nothing.
use Rattle.worked.proofs.Worked.{worked}
use Rattle.worked.proofs.the_examples.Goals as goal

pub returns : goal.returns
returns c = worked

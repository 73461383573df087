-- The claim is the theorem. Assumes nothing.
use Rattle.demand.proofs.Theorem.{demand}
use Rattle.demand.proofs.the_claim.Goals as goal

pub returns-clause-claim : goal.returns-clause-claim
returns-clause-claim c = demand

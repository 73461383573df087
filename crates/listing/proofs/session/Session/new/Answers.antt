use Rattle.std.proofs.Common.{refl}
use Rattle.listing.specs.Taken.{numbers_of}
use Rattle.listing.proofs.Words.{so_far_none}
use Rattle.listing.proofs.session.Session.new.Goals as goal

pub returns-clause-so_far : goal.returns-clause-so_far
unfolding numbers_of
returns-clause-so_far c = record { accepting = so_far_none c.new.ensures refl; refused = tt }

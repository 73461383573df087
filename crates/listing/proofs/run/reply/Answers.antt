-- What was read, and its listing.
use Rattle.listing.proofs.Sending.{whole_read, listed_as}
use Rattle.listing.proofs.run.reply.Goals as goal

pub returns-clause-replied : goal.returns-clause-replied
returns-clause-replied g c =
    let all = c.read_all-given.ensures in
    record { text = all.text; took = all.took; stop = all.stop; listed = c.respond.ensures all.text all.holds }

pub returns-clause-whole : goal.returns-clause-whole
returns-clause-whole g c =
    let all = c.read_all-given.ensures in
    whole_read _ _ c.read_all-given.result.1 _ all.took all.stop (λ text q. listed_as (c.respond.ensures all.text all.holds) q)

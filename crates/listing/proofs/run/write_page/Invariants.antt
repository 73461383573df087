-- What is left is what is not written.
use Rattle.listing.proofs.Sending.{Sent}
use Rattle.listing.proofs.run.write_page.Given as goal

abbrev pub invariant-loop : goal.invariant-loop
invariant-loop g l = Sent (g.W.Write.contents l.fn.writer) (g.W.Write.contents l.writer) l.page l.rest

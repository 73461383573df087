-- A part that is refused.
use Rattle.listing.proofs.Stopping.{all_refused}
use Rattle.listing.proofs.input.read_all.Goals as goal

pub returns-in-Err-feed : goal.returns-in-Err-feed
returns-in-Err-feed g c = all_refused c.loop.invariant c.in-Ok.count c.read.new.buf _ c.in-Ok.ensures.bytes.0 c.in-Err-feed.ensures.err

-- The page stands at the start of the buffer.
use Rattle.std.proofs.Common.{sym, ap, ◌∙◌, arith}
use Rattle.listing.specs.Listing.{listing_of, answered}
use Rattle.listing.proofs.Sending.{listed_first}
use Rattle.listing.proofs.run.respond.Goals as goal

pub returns : goal.returns
unfolding listing_of
returns c = λ text e.
    listed_first
    (c.page_of-page.ensures ∙ ap answered (sym e))
    (c.copy_from_slice.ensures.after ∙ c.as_slice.ensures.value)
    c.len-end.ensures.value
    (omega (arith, c.len-end.ensures.fits, c.requires))

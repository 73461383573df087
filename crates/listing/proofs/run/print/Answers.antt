-- What was read, and how much of its listing was written.
use Rattle.std.proofs.Common.{◌∙◌}
use Rattle.listing.proofs.Printing.{printed_ok, printed_whole, printed_err, printed_part}
use Rattle.listing.proofs.run.print.Goals as goal

pub returns-in_err-write_page-clause-err : goal.returns-in_err-write_page-clause-err
returns-in_err-write_page-clause-err g c = printed_part c.read_all-given.ensures (c.as_slice.ensures.value ∙ c.page_of-page.ensures) c.from_residual.result c.in_err-write_page.ensures.err

pub returns-clause-ok : goal.returns-clause-ok
returns-clause-ok g c = printed_ok c.read_all-given.ensures (c.as_slice.ensures.value ∙ c.page_of-page.ensures) _ _ c.in_ok-write_page.ensures.ok

pub returns-clause-whole : goal.returns-clause-whole
returns-clause-whole g c = printed_whole c.read_all-given.ensures (c.as_slice.ensures.value ∙ c.page_of-page.ensures) _ _ c.in_ok-write_page.ensures.ok

pub returns-clause-err : goal.returns-clause-err
returns-clause-err g c = printed_err c.read_all-given.ensures (c.as_slice.ensures.value ∙ c.page_of-page.ensures) _ _ c.in_ok-write_page.ensures.ok

-- So many reads have given a text, which was taken.
use Rattle.listing.proofs.Stopping.{Run}
use Rattle.listing.proofs.input.read_all.Given as goal

abbrev pub invariant-loop : goal.invariant-loop
invariant-loop g l = Run (g.R.Read.remaining l.fn.reader) (g.R.Read.remaining l.reader) l.session l.counter

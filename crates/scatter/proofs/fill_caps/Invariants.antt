-- `scatter::fill_caps` meets its contract: the loop's invariant says which letters are done. Assumes nothing.
use Rattle.std.proofs.Common.{◌≡◌, length}
use Rattle.scatter.specs.Play.{Capped}
use Rattle.scatter.proofs.fill_caps.Given as goal

abbrev pub invariant-loop-t : goal.invariant-loop-t
invariant-loop-t l = (l.t-end ≡ length l.out) × Capped l.unseen l.tally l.t l.out

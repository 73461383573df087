-- `blanks::walk::tails_of` meets its contract. The loop's invariant: the tails of the runs before s are made. The measure is how many tiles that can be real are
-- left. Assumes nothing.
use Prim.Native.Nat.{◌-◌}
use lib.ListN.{length}
use Rattle.blanks.specs.Tails.{Tailing}
use Rattle.blanks.proofs.walk.tails_of.Given as goal

abbrev pub invariant-loop-s : goal.invariant-loop-s
invariant-loop-s l = Tailing l.letters l.unseen (length l.tally) l.real l.tails l.s l.rank

abbrev pub decreases-loop-s : goal.decreases-loop-s
decreases-loop-s l = l.real - l.s

-- `blanks::walk::tally_letters` meets its contract. The loop's invariant: the tally is that of the tiles so far, and the word is the tally's. Assumes nothing.
use mathlib.Core.Path.{◌≡◌}
use lib.ListN.{length}
use Rattle.runs.specs.Runs.{present}
use Rattle.blanks.specs.Tallied.{Tallying}
use Rattle.blanks.proofs.walk.tally_letters.Given as goal

abbrev pub invariant-loop-letter : goal.invariant-loop-letter
invariant-loop-letter l = Tallying l.letters (length l.initial.tally) l.letter-index l.tally × (l.word ≡ present l.tally)

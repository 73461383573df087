-- `maxima::greatest_below` meets its contract. The invariant: the letters from the rest on are done. The measure is the number of letters left. Assumes nothing.
use mathlib.Core.Path.{◌≡◌}
use lib.ListN.{length}
use Rattle.laws.specs.Greatest.{Greatest}
use Rattle.maxima.specs.Judge.{Smaller}
use Rattle.maxima.specs.Places.{Places}
use Rattle.maxima.proofs.greatest_below.Given as goal

abbrev pub invariant-loop-last : goal.invariant-loop-last
invariant-loop-last l =
    (l.rest.tally.now ≡ l.fn.runs.tally.now) × Places l.fn.runs.tally.now l.rest.stop l.at × Greatest l.own (Smaller (length l.fn.runs.tally.now) l.m l.fn.runs.tally.now l.rest.stop) l.best

abbrev pub decreases-loop-last : goal.decreases-loop-last
decreases-loop-last l = l.rest.stop

-- `runs::next_run` meets its contract: the trailing zeros of the word are the letters that lack.
-- Assumes nothing.
use native.Mathlib.Omega.{arith}
use lib.Count.{count_trailing_zeros}
use Rattle.runs.specs.Runs.{Lowest, lowest, lowest_run, ones_some, trailing_lt}
use Rattle.runs.proofs.next_run.Goals.{Start}
use Rattle.runs.proofs.next_run.Goals as goal

found : (c : goal.Start) → Lowest c.args.tally.now c.args.i c.args.word (count_trailing_zeros 64 c.args.word)
found c = lowest c.args.tally.now 64 c.args.i c.args.word c.requires.inside c.requires.word (ones_some c.requires.some) c.ranges.word.fits

pub overflow_sub-result : goal.overflow_sub-result
overflow_sub-result c = omega (arith, (found c).below)

pub overflow_shr-result : goal.overflow_shr-result
overflow_shr-result c = trailing_lt 64 c.args.word c.ranges.word.fits (ones_some c.requires.some)

pub returns : goal.returns
returns c = lowest_run (found c)

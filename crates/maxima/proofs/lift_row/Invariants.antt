-- `maxima::lift_row` meets its contract. The invariant: dst is what the letters below t make of dst at entry, and is as long. The measure is what is left of the letters. Assumes nothing.
use mathlib.Core.Path.{◌≡◌}
use lib.ListN.{length}
use Rattle.maxima.specs.Maxima.{lift_row}
use Rattle.maxima.proofs.lift_row.Given as goal

abbrev pub invariant-loop-rank : goal.invariant-loop-rank
invariant-loop-rank l = (length l.dst ≡ length l.initial.dst) × (l.dst ≡ lift_row l.n l.add l.idx l.rank-index l.initial.dst)

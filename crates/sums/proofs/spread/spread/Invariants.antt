-- the counts so far of the last letter are done, in both tables
use Rattle.std.proofs.Common.{suc, ◌-◌, ◌≤◌, length}
use Rattle.sums.specs.Spread.{with_last}
use Rattle.sums.proofs.Spreading.{Turned}
use Rattle.sums.proofs.spread.spread.Given as goal

abbrev pub invariant-loop-c : goal.invariant-loop-c
invariant-loop-c l =
    (l.c ≤ l.count)
    × Turned (with_last (length l.tally) l.tally (l.stop - 1) (length l.tally - suc (l.stop - 1))) l.values l.initial.num l.num l.c
    × Turned (with_last (length l.tally) l.tally (l.stop - 1) (length l.tally - suc (l.stop - 1))) l.ways l.initial.den l.den l.c

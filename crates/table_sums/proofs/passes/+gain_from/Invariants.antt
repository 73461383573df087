-- The proof of the cycle of calls {gain_from}. The measure is the number of letters before t. The loop's invariant: the turns so far are done.
-- Assumes nothing.
use Rattle.std.proofs.Common.{◌+◌, ◌-◌, ◌≤◌}
use Rattle.table_sums.specs.Gain.{Turned}
use Rattle.table_sums.proofs.passes.+gain_from.Given as goal

abbrev pub decreases-gain_from : goal.decreases-gain_from
decreases-gain_from l = l.t - l.k

abbrev pub invariant-loop-c : goal.invariant-loop-c
invariant-loop-c l = (l.c ≤ l.rem + 1) × Turned l.m (l.t - (l.k + 1)) l.rem l.w l.v l.c l.initial.xs l.xs

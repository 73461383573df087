-- The cycle of calls {deal}. The measure is the number of letters left. The loop's invariant: the counts so far are done.
-- Assumes nothing.
use Prim.Native.Nat.{suc, ◌+◌, ◌-◌, ◌≤◌}
use lib.ListN.{drop}
use Rattle.fused.specs.Deal.{Turned}
use Rattle.fused.proofs.+deal.Given as goal

abbrev pub decreases-deal : goal.decreases-deal
decreases-deal l = 64 - l.t

abbrev pub invariant-loop-c : goal.invariant-loop-c
invariant-loop-c l =
    (l.low ≤ l.c) × (l.c ≤ l.high + 1) × Turned l.u (drop (suc l.t) l.unseen) l.rem l.w l.p l.c l.initial.ways l.ways

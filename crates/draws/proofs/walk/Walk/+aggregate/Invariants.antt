-- The proof of the cycle of calls {aggregate}. The measure is the number of letters from t on. The loop's invariant: the totals are those
-- of the turns so far, and binom and ridx are the binomial and the rank of as many tiles. Assumes nothing.
use Rattle.std.proofs.Common.{◌≡◌, suc, ◌-◌, ◌≤◌, length, drop}
use Rattle.draws.specs.Walk.{running, factor, climb, met_to, Gathered}
use Rattle.draws.proofs.walk.Walk.+aggregate.Given as goal

abbrev pub decreases-aggregate : goal.decreases-aggregate
decreases-aggregate l = length l.self.now.pool.now - l.t

abbrev pub invariant-loop-j : goal.invariant-loop-j
invariant-loop-j l =
    (l.j ≤ l.j-end) × (l.binom ≡ running l.u l.j) × (l.ridx ≡ climb (length l.self.pool.now) l.self.add.now l.t l.j l.leave.ridx) × Gathered l.self.full_v.now (met_to factor (length l.self.pool.now) l.self.add.now l.t l.u (drop (suc l.t) l.self.pool.now) l.remaining l.leave.w l.leave.ridx (suc l.j)) l.fn.sums l.sums

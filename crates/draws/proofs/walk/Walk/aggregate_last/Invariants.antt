-- `draws::walk::Walk::aggregate_last` meets its contract. The invariant: the totals are those of the letters from u on. Assumes nothing.
use Prim.Native.Nat.{◌≤◌}
use lib.ListN.{length, drop}
use Rattle.draws.specs.Walk.{factor, met, Gathered}
use Rattle.draws.proofs.walk.Walk.aggregate_last.Given as goal

abbrev pub invariant-loop-u : goal.invariant-loop-u
invariant-loop-u l = (l.t ≤ l.u) × Gathered l.self.full_v.now (met factor (length l.self.pool.now) l.self.add.now (l.u) (drop l.u l.self.pool.now) 1 l.leave.w l.leave.ridx) l.fn.sums l.sums

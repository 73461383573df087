-- `maxima::lift_rows` meets its contract. The invariant: dst is what the rows below idx make of dst at entry, and is as long. The measure is what is left of the rows. Assumes nothing.
use Prim.Native.Nat.{◌≤◌}
use mathlib.Core.Path.{◌≡◌}
use lib.ListN.{length}
use Rattle.maxima.specs.Maxima.{lift_rows}
use Rattle.maxima.proofs.lift_rows.Given as goal

abbrev pub invariant-loop-idx : goal.invariant-loop-idx
invariant-loop-idx l = (l.idx ≤ l.leaves) × (length l.dst ≡ length l.initial.dst) × (l.dst ≡ lift_rows l.n l.idx l.add l.initial.dst)

-- `fused::bests::write_run` meets its contract. The loop's invariant: the entries passed are written. Assumes nothing.
use mathlib.Core.Path.{◌≡◌}
use Prim.Native.Nat.{◌≤◌}
use lib.ListN.{length}
use Rattle.fused.specs.Bests.{Put}
use Rattle.fused.proofs.bests.Drawable.write_run.Given as goal

abbrev pub invariant-loop-j : goal.invariant-loop-j
invariant-loop-j l = (l.j ≤ length l.run) × (length l.best ≡ length l.initial.best) × Put l.self.sizes.leaves l.self.ways.now l.run l.first l.j l.initial.best l.best

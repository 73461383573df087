use Rattle.std.proofs.Common.{◌≤◌}
use Rattle.lattice.proofs.Sparse.{Taken}
use Rattle.lattice.proofs.Lattice.sparse_of_any.Given as goal

abbrev pub invariant-loop-i : goal.invariant-loop-i
invariant-loop-i l = (l.tiles ≤ l.sizes.r) × Taken l.sizes.n l.sizes.r 0 l.i l.high l.tiles l.before l.letters l.counts

-- The items from i on are counted, with one tile more, and with the start of s tiles where these are at most r. Assumes nothing.
use Rattle.std.proofs.Common.{◌-◌, ◌≤◌}
use Rattle.lattice.specs.Tally.{start}
use Rattle.lattice.proofs.Sparse.{Taken}
use Rattle.lattice.proofs.Lattice.sparse_of_seven.Given as goal

abbrev pub invariant-loop-i : goal.invariant-loop-i
invariant-loop-i l = (1 ≤ l.tiles) × Taken l.self.n l.self.r (start l.self.n l.s) l.i l.high (l.tiles - 1) l.before l.letters l.counts

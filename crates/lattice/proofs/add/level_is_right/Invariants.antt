-- `lattice::add::level_is_right` meets its contract. The invariant: `wrong` is 0 exactly where the entries of the letters below k agree with the walk down, at which `cur` stands. Assumes nothing.
use Rattle.std.proofs.Common.{◌≡◌, eqb, length, replicate}
use Rattle.lattice.specs.AddRows.{lowered, Decides}
use Rattle.lattice.proofs.AddStores.{Agrees}
use Rattle.lattice.proofs.add.level_is_right.Given as goal

abbrev pub invariant-loop-k : goal.invariant-loop-k
invariant-loop-k l = record {
  stands : l.cur ≡ lowered l.above (replicate (length l.row) l.v) l.k;
  agrees : Decides (eqb l.wrong 0) (Agrees l.above (replicate (length l.row) l.v) l.k l.row);
}

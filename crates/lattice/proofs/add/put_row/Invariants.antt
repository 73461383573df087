-- `lattice::add::put_row` meets its contract. The invariant: the entries before the row are those at entry, and those of the letters below k are of the walk down, at which `cur` stands. Assumes nothing.
use Rattle.std.proofs.Common.{◌≡◌, suc, ◌+◌, ◌-◌, length}
use Rattle.lattice.specs.AddRows.{lowered}
use Rattle.lattice.proofs.AddStores.{Kept, Stored}
use Rattle.lattice.proofs.add.put_row.Given as goal

abbrev pub invariant-loop-k : goal.invariant-loop-k
invariant-loop-k l = record {
  size : length l.add ≡ length l.initial.add;
  stands : l.cur ≡ lowered l.above l.rem l.k;
  kept : Kept l.at l.initial.add l.add;
  stored : Stored l.at (l.at + l.k) (λ p. lowered l.above l.rem (suc (p - l.at))) l.add;
}

-- `lattice::add::lift_row` meets its contract. The invariant: the entries before the row and those from letter k on are those at entry, and those of the letters below k are one more than in the row before. Assumes nothing.
use Rattle.std.proofs.Common.{◌≡◌, ◌+◌, ◌-◌, length, get_or}
use Rattle.lattice.proofs.AddStores.{Kept, Stored, Later}
use Rattle.lattice.proofs.add.lift_row.Given as goal

abbrev pub invariant-loop-k : goal.invariant-loop-k
invariant-loop-k l = record {
  size : length l.add ≡ length l.initial.add;
  kept : Kept l.at l.initial.add l.add;
  stored : Stored l.at (l.at + l.k) (λ p. get_or l.initial.add (l.prior + (p - l.at)) 0 + 1) l.add;
  later : Later (l.at + l.k) l.initial.add l.add;
}

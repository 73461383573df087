-- `lattice::add::spread_row` meets its contract. The invariant: the row is copied for the letters below t, and no other is changed. Assumes nothing.
use Rattle.std.proofs.Common.{◌≡◌, ◌*◌, length}
use Rattle.lattice.proofs.AddLetters.{SameTo, Others}
use Rattle.lattice.proofs.add.spread_row.Given as goal

abbrev pub invariant-loop-t : goal.invariant-loop-t
invariant-loop-t l = record {
  size : length l.by_letter ≡ length l.initial.by_letter;
  same : SameTo l.rows l.idx (l.idx * l.n) l.t l.add l.by_letter;
  others : Others l.rows l.idx l.initial.by_letter l.by_letter;
}

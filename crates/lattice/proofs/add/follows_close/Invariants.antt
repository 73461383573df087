-- `lattice::add::follows_close` meets its contract. The invariant: `wrong` is 0 exactly where the entries that were passed are one more. Assumes nothing.
use Rattle.std.proofs.Common.{◌≡◌, ℕ, ◌+◌, ◌<◌, eqb, get_or, length}
use Rattle.lattice.specs.AddRows.{Decides}
use Rattle.lattice.proofs.add.follows_close.Given as goal

abbrev pub invariant-loop-was : goal.invariant-loop-was
invariant-loop-was l = Decides (eqb l.wrong 0) ((j : ℕ) → j < length l.yielded → get_or l.row j 0 ≡ get_or l.before j 0 + 1)

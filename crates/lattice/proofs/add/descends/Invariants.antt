-- `lattice::add::descends` meets its contract. The invariant: `wrong` is 0 exactly where the entries below k go down by one each. Assumes nothing.
use Rattle.std.proofs.Common.{◌≡◌, ℕ, ◌-◌, ◌<◌, eqb, get_or}
use Rattle.lattice.specs.AddRows.{Decides}
use Rattle.lattice.proofs.add.descends.Given as goal

abbrev pub invariant-loop-k : goal.invariant-loop-k
invariant-loop-k l = Decides (eqb l.wrong 0) ((j : ℕ) → j < l.k → get_or l.part j 0 ≡ l.first - j)

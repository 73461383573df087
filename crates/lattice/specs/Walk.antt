-- Where a walk over the leaves stands: what its row is told by. Assumes nothing.
use Rattle.std.specs.Prelude.{ℕ, ◌<◌, List, take}
use Rattle.lattice.specs.Tally.{start}
use Rattle.lattice.specs.AddRow.{row_top}
use Rattle.lattice.specs.declared.add.Walk.{Walk}

-- it stands at a leave, and not behind the last
abbrev pub IsAtLeave : Walk → Type 0
IsAtLeave w = w.rank < start w.sizes.n w.sizes.r

-- the tails of the leave's n letters
abbrev pub tails_of : Walk → List ℕ
tails_of w = take w.sizes.n w.tails

-- where the walk down the leave's row starts
abbrev pub top_of : Walk → ℕ
top_of w = row_top w.sizes.n w.rank (tails_of w)

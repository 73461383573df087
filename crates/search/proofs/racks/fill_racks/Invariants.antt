-- `search::racks::fill_racks` meets its contract. The loop's invariant: the racks that extend the leaves passed are written, and nothing else; the walk has reached the next.
-- Assumes nothing.
use mathlib.Core.Path.{◌≡◌}
use mathlib.Core.Bool.{true}
use Prim.Native.Nat.{◌≤◌}
use lib.ListN.{length}
use Rattle.lattice.specs.Tally.{start}
use Rattle.extensions.specs.Onward.{Reached}
use Rattle.search.specs.Racks.{Filled}
use Rattle.search.proofs.racks.fill_racks.Given as goal

abbrev pub invariant-loop : goal.invariant-loop
invariant-loop l =
    (l.counter ≤ start l.n l.r) × (length l.out ≡ length l.initial.out) × Filled l.sheet l.leave (λ i. true) l.n l.r l.counter l.initial.out l.out × Reached l.n l.r l.counter l.tally l.e.word l.e.stop l.e.first

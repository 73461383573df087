-- `table_sums::passes::fold_letters` meets its contract. The loop's invariant: whatever is summed, the letters before t are taken. Assumes nothing.
use mathlib.Core.Path.{◌≡◌}
use mathlib.Core.Bool.{true}
use mathlib.Core.List.{List}
use Prim.Native.Nat.{ℕ, ◌≤◌}
use lib.IntN.{ℤ}
use lib.ListN.{length}
use Rattle.hands.specs.Pass.{run}
use Rattle.table_sums.specs.Passes.{Folding, Partly}
use Rattle.table_sums.proofs.passes.fold_letters.Given as goal

abbrev pub invariant-loop-t : goal.invariant-loop-t
invariant-loop-t l =
    (l.t ≤ length l.unseen) × (length l.xs ≡ length l.initial.xs) × ((g : List ℕ → ℤ) → Folding l.unseen l.sizes.r g l.initial.xs → Partly (length l.unseen) l.sizes.r g (run true (length l.unseen) l.t) l.xs)

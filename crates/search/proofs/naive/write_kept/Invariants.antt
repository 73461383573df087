-- `search::naive::write_kept` meets its contract. The loop's invariant: the letters from i on are written, and the place of those before is left.
-- Assumes nothing.
use mathlib.Core.Path.{◌≡◌}
use Prim.Native.Nat.{◌≤◌}
use lib.ListN.{length}
use Rattle.search.specs.NaiveKept.{KeptLeft}
use Rattle.search.proofs.naive.write_kept.Given as goal

abbrev pub invariant-loop-i : goal.invariant-loop-i
invariant-loop-i l = (l.i ≤ length l.tally) × (length l.kept ≡ length l.initial.kept) × KeptLeft l.tally l.place l.i l.over l.kept

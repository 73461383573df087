-- The tiles from i on are letters, and counted. Assumes nothing.
use Rattle.std.proofs.Common.{◌≡◌, true, length, drop}
use Rattle.lattice.specs.Tiles.{tally_of, letters_below}
use Rattle.lattice.proofs.count_tiles.Given as goal

abbrev pub invariant-loop-i : goal.invariant-loop-i
invariant-loop-i l =
    (letters_below (length l.initial.tally) (drop l.i l.tiles) ≡ true) × (l.tally ≡ tally_of (length l.initial.tally) (drop l.i l.tiles))

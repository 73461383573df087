use Rattle.std.proofs.Common.{◌≡◌, drop}
use Rattle.lattice.specs.Tiles.{ascends}
use Rattle.lattice.proofs.ascend.Given as goal

abbrev pub invariant-loop-tile : goal.invariant-loop-tile
invariant-loop-tile l = ascends l.n 0 l.letters ≡ ascends l.n l.low (drop l.tile-index l.letters)

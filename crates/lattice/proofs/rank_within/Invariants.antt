-- The tally from letter i on is counted, and, where it has at most 15 tiles, so are itself and the tallies after it. Assumes nothing.
use Rattle.std.proofs.Common.{◌≡◌, ◌+◌, ◌*◌, ◌<◌, ◌≤◌, length, drop}
use Rattle.lattice.specs.Tally.{total}
use Rattle.lattice.proofs.Ranks.{Behind}
use Rattle.lattice.proofs.rank_within.Given as goal

abbrev pub invariant-loop-i : goal.invariant-loop-i
invariant-loop-i l =
    (1 ≤ l.i) × (l.i ≤ length l.tally) × (l.tiles ≡ total (drop l.i l.tally)) × (l.tiles + 255 * l.i ≤ 255 * length l.tally) × (l.rest + 1125899906842624 * l.i ≤ 1125899906842624 * length l.tally + 1) × (l.tiles < 16 → Behind l.tally l.i l.tiles l.rest)

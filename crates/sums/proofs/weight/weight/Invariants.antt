-- hands is C(tiles, j), and at most 2^53
use Rattle.std.proofs.Common.{◌≡◌, ◌≤◌}
use Rattle.binomials.specs.Binomial.{binomial}
use Rattle.sums.proofs.weight.weight.Given as goal

abbrev pub invariant-loop-j : goal.invariant-loop-j
invariant-loop-j l = (l.hands ≡ binomial l.tiles l.j) × (l.hands ≤ 9007199254740992)

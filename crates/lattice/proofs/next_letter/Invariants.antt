-- `lattice::next_letter` meets its contract. The loop's invariant: the tile is on a letter with at most `after` letters after it, and `ways` is what one of that letter passes over. Assumes nothing.
use Rattle.std.proofs.Common.{◌≡◌, ◌+◌, ◌-◌, ◌<◌, ◌≤◌}
use Rattle.binomials.specs.Binomial.{binomial}
use Rattle.lattice.proofs.next_letter.Given as goal

abbrev pub invariant-loop-ways : goal.invariant-loop-ways
invariant-loop-ways l =
    (1 ≤ l.after) × (l.after ≤ l.m) × (l.ways ≡ binomial (l.left + (l.after - 1)) (l.after - 1)) × (l.over < binomial (l.left + l.after) l.after)

abbrev pub decreases-loop-ways : goal.decreases-loop-ways
decreases-loop-ways l = l.after

-- `lattice::next_letter` meets its contract. The loop's invariant: the tile is on a letter with at most `after` letters after it, and `ways` is what one of that letter passes over. Assumes nothing.
use Rattle.std.proofs.Common.{◌+◌, ◌-◌, ◌<◌, ◌≤◌, arith}
use Rattle.binomials.specs.Binomial.{binomial}
use Rattle.lattice.proofs.Filling.{letter_left}
use Rattle.lattice.proofs.next_letter.Goals.{In-loop-ways, Start}
use Rattle.lattice.proofs.next_letter.Goals as goal

-- the letters after the first
start : (c : goal.Start) → 1 ≤ c.args.m
start c = let a = c.args in letter_left a.m a.left a.over c.requires.some c.requires.inside

pub overflow_sub-after : goal.overflow_sub-after
overflow_sub-after c = start c

pub loop-ways-init : goal.loop-ways-init
loop-ways-init c = (start (goal.at.loop-ways-init c).Start, omega arith, c.choose-ways.ensures, c.requires.inside)

-- in a turn the tallies that come before are among those of the letters after
turn : (c : goal.In-loop-ways) → (1 ≤ c.loop-ways.after - 1) × (c.args.over < binomial (c.args.left + (c.loop-ways.after - 1)) (c.loop-ways.after - 1))
turn c =
    let l = c.loop-ways in
    let b = rw l.invariant.2 at c.loop-ways-test.true in
    (letter_left (l.after - 1) c.args.left c.args.over c.requires.some b, b)

pub overflow_sub-after-in-loop-ways-2 : goal.overflow_sub-after-in-loop-ways-2
overflow_sub-after-in-loop-ways-2 c = (turn c).0

pub loop-ways-preserved : goal.loop-ways-preserved
loop-ways-preserved c = let h = turn (goal.at.loop-ways-preserved c).In-loop-ways in (h.0, omega arith, c.choose-ways-in-loop-ways.ensures, h.1)

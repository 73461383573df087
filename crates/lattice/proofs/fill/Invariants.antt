-- `lattice::fill` meets its contract. The loop's invariant is `Filling`: no letter with fewer than m letters after it has a tile, and so many tiles and tallies are left. Assumes nothing.
use Rattle.std.proofs.Common.{length}
use Rattle.lattice.proofs.Filling.{Filling}
use Rattle.lattice.proofs.fill.Given as goal

abbrev pub invariant-loop-left : goal.invariant-loop-left
invariant-loop-left l = Filling (length l.initial.out) l.s l.rest l.out l.m l.left l.over

abbrev pub decreases-loop-left : goal.decreases-loop-left
decreases-loop-left l = l.left

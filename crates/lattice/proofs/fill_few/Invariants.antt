use Rattle.std.proofs.Common.{◌+◌, length}
use Rattle.lattice.proofs.Filling.{Letters}
use Rattle.lattice.proofs.fill_few.Given as goal

abbrev pub invariant-loop-m : goal.invariant-loop-m
invariant-loop-m l = Letters (length l.initial.out) l.s l.rest l.out l.m l.left l.over l.count

abbrev pub decreases-loop-m : goal.decreases-loop-m
decreases-loop-m l = l.m + l.left

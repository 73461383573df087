-- the plays so far are done
use Rattle.std.proofs.Common.{◌≡◌, length}
use Rattle.scatter.specs.Every.{Scattered}
use Rattle.scatter.proofs.scatter.Given as goal

abbrev pub invariant-loop-rank : goal.invariant-loop-rank
invariant-loop-rank l = (length l.tally ≡ length l.unseen) × (length l.caps ≡ length l.unseen) × Scattered l.sheet l.leave l.initial.best l.unseen l.r l.rank l.best

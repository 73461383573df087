-- what is still to be offered
use Rattle.scatter.specs.Last.{SoFar}
use Rattle.scatter.proofs.play.Play.last_two.Given as goal

abbrev pub invariant-loop-u : goal.invariant-loop-u
invariant-loop-u l = SoFar 2 l.self.worth l.self.leave.now l.initial.best l.self.tally.now l.self.caps.now l.k l.r l.t l.best l.u

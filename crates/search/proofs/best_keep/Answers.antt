use Rattle.std.proofs.Common.{◌≡◌, length, eq-eqb, ne_eqb}
use Rattle.search.specs.BestKeep.{best_keep, whole_keep}
use Rattle.search.specs.Answers.{leave_given}
use Rattle.search.proofs.best_keep.Goals.{After-best-found}
use Rattle.search.proofs.best_keep.Goals as goal

-- what the walk finds
found : (c : goal.After-best-found) → c.best-found.result ≡ best_keep c.args.leave.now (length c.args.tally.now) c.args.tally.now c.args.keep
found c = whole_keep _ _ _ (rw (c.of.ensures.tally, c.of.ensures.stop) at c.best-found.ensures)

pub returns-then-found : goal.returns-then-found
unfolding leave_given
returns-then-found c = rw (← found (goal.at.returns-then-found c).After-best-found, eq-eqb _ _ c.if-found.true)

pub returns-else-found : goal.returns-else-found
unfolding leave_given
returns-else-found c = rw (← found (goal.at.returns-else-found c).After-best-found, ne_eqb _ _ c.if-found.false)

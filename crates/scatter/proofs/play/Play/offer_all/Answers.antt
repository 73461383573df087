-- the walk from the first letter on
use Rattle.std.proofs.Common.{◌≡◌, ℕ, ◌+◌, length, ap, ◌∙◌, arith}
use Rattle.lattice.specs.Tally.{total, start}
use Rattle.scatter.specs.Raise.{raise_all}
use Rattle.scatter.specs.Play.{ready_first}
use Rattle.scatter.specs.Standing.{offers}
use Rattle.scatter.proofs.play.Play.offer_all.Goals.{After-size_start-2}
use Rattle.scatter.proofs.play.Play.offer_all.Goals as goal

-- where the racks begin that have the play's tiles and those that are kept
rack_is : (c : goal.After-size_start-2) → c.size_start-2.result ≡ start (length c.args.self.now.tally.now) (total c.args.self.now.tally.now + c.args.self.now.keep)
rack_is c =
    c.size_start-2.ensures
    ∙ ap (λ (x : ℕ). start (length c.args.self.now.tally.now) (x + c.args.self.now.keep)) (c.args.self.now.planned.sums.tails.rest 0 (omega arith))

pub walk-requires : goal.walk-requires
walk-requires c =
    ready_first c.requires.in_leave c.requires.in_best c.size_start.ensures (rack_is (goal.at.walk-requires c).After-size_start-2)

pub returns : goal.returns
returns c =
    c.walk.ensures
    ∙ (λ i. raise_all c.args.best.now (offers c.args.self.now (c.size_start.ensures i) (rack_is (goal.at.returns c).After-size_start-2 i) 0 c.args.self.now.keep))

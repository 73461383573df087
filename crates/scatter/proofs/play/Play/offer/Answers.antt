-- the sum fits, and the entry becomes the greater of the two
use Rattle.std.proofs.Common.{get_or, pos, ◌+ℤ◌, ap, ◌∙◌, arith, w32, SFits}
use Rattle.laws.specs.Integer.{sfits_nat_abs, sfits_sum, sfits_read, read_sum}
use Rattle.search.specs.Split.{Bounded}
use Rattle.maxima.specs.Maxima.{raise}
use Rattle.scatter.proofs.play.Play.offer.Goals.{Start}
use Rattle.scatter.proofs.play.Play.offer.Goals as goal

module _ (c : goal.Start) where
  worth_fits : SFits w32 c.args.self.now.worth
  worth_fits = sfits_nat_abs c.args.self.now.small.play (omega arith)

  entry_fits : SFits w32 (get_or c.args.self.now.leave.now c.args.k (pos 0))
  unfolding Bounded
  entry_fits = sfits_nat_abs (c.args.self.now.small.keep c.args.k) (omega arith)

  sum_fits : SFits w32 (c.args.self.now.worth +ℤ get_or c.args.self.now.leave.now c.args.k (pos 0))
  unfolding Bounded
  sum_fits = sfits_sum c.args.self.now.worth (get_or c.args.self.now.leave.now c.args.k (pos 0)) c.args.self.now.small.play (c.args.self.now.small.keep c.args.k) (omega arith)

pub overflow_add-worth : goal.overflow_add-worth
overflow_add-worth c =
    let s = (goal.at.overflow_add-worth c).Start in
    sfits_read w32 (worth_fits s) (entry_fits s) (sum_fits s)

pub returns : goal.returns
returns c =
    let s = (goal.at.returns c).Start in
    c.raise.ensures ∙ ap (raise c.args.best.now c.args.r) (read_sum w32 (worth_fits s) (entry_fits s) (sum_fits s))

use Rattle.std.proofs.Common.{◌∙◌, ap, eq-eqb, ne_eqb}
use Rattle.std.proofs.lemmas.Result.{err_from_is_err_and}
use Rattle.lattice.specs.Answers.{served, rank_answer}
use Rattle.lattice.proofs.Calls.{rank_gives}
use Rattle.lattice.proofs.Lattice.rank.Goals as goal

pub returns-in_err-sizes : goal.returns-in_err-sizes
unfolding rank_answer
returns-in_err-sizes c =
    let p = err_from_is_err_and c.from_residual.result c.from_residual.ensures.1 in
    rw (p.1, p.2, c.in_err-sizes.ensures.0) (rank_gives (rw c.in_err-sizes.ensures.1))

pub returns-then-tally-sizes : goal.returns-then-tally-sizes
unfolding rank_answer
returns-then-tally-sizes c =
    let s = c.in_ok-sizes.sizes in
    rw (← c.in_ok-sizes.ensures.0, ← c.in_ok-sizes.ensures.1) (rank_gives (rw (s.is_served, ne_eqb _ _ c.if-tally-sizes.true)))

pub rank_within-requires : goal.rank_within-requires
rank_within-requires c = let s = c.in_ok-sizes.sizes in ap (λ n. served n s.r) c.if-tally-sizes.false ∙ s.is_served

pub returns : goal.returns
unfolding rank_answer
returns c =
    let s = c.in_ok-sizes.sizes in
    rw (← c.in_ok-sizes.ensures.0, ← c.in_ok-sizes.ensures.1)
    (rank_gives (rw (s.is_served, eq-eqb _ _ c.if-tally-sizes.false, ← c.if-tally-sizes.false) c.rank_within.ensures))

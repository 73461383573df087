use Rattle.std.proofs.Common.{sym, ◌∙◌}
use Rattle.std.proofs.lemmas.Result.{err_from_is_err_and}
use Rattle.search.specs.Refusals.{play_1, play_2, sizes_same}
use Rattle.search.proofs.calls.play_sizes.Goals as goal

pub returns-in_err-sizes-clause-number : goal.returns-in_err-sizes-clause-number
returns-in_err-sizes-clause-number c =
    let p = err_from_is_err_and c.from_residual.result c.from_residual.ensures.1 in
    rw (p.1, p.2, c.in_err-sizes.ensures.0) (sym (play_1 _ _ _ _ _ _ c.in_err-sizes.ensures.1))

pub returns-then-kept-sizes-clause-number : goal.returns-then-kept-sizes-clause-number
returns-then-kept-sizes-clause-number c =
    let s = c.in_ok-sizes.sizes in
    rw (← c.in_ok-sizes.ensures.0, ← c.in_ok-sizes.ensures.1) (sym (play_2 _ _ _ _ _ _ s.is_served c.if-kept-sizes.true))

pub returns-clause-number : goal.returns-clause-number
returns-clause-number c =
    c.rack_sizes.ensures.number ∙ sizes_same _ _ _ _ _ _ (c.if-kept-sizes.false ∙ c.in_ok-sizes.ensures.0)

use Rattle.std.proofs.Common.{sym, ap, ◌∙◌, Err}
use Rattle.std.proofs.lemmas.Result.{err_from_is_err_and}
use Rattle.search.specs.Refusals.{sized}
use Rattle.search.proofs.Equity.{sized_held, rack_refused, rack_answer}
use Rattle.search.proofs.calls.best_equity_of.Goals as goal

pub returns-in_err-rack_sizes : goal.returns-in_err-rack_sizes
returns-in_err-rack_sizes c =
    let p = err_from_is_err_and c.from_residual.result c.from_residual.ensures.1 in
    rack_refused _ _ _ _ _ _ _ (p.1 ∙ ap Err p.2) c.in_err-rack_sizes.ensures.number

pub best_split-requires : goal.best_split-requires
best_split-requires c =
    sized_held _ _ _ (sized _ _ _ _ _ (sym c.in_ok-rack_sizes.ensures.number))

pub returns : goal.returns
returns c = rw c.ok_or.ensures.value (rack_answer _ _ _ _ _ (sym c.in_ok-rack_sizes.ensures.number) _ c.best_split.ensures)

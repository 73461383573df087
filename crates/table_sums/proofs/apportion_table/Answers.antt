use Rattle.std.proofs.Common.{sym, ◌∙◌, arith}
use mathlib.Core.Bool.{false≢true}
use Rattle.std.proofs.lemmas.Result.{err_from_is_err_and}
use Rattle.table_sums.specs.Table.{sizes, lengths}
use Rattle.table_sums.specs.Calls.{not_sized, refused}
use Rattle.table_sums.proofs.apportion_table.Goals as goal

pub returns-in_err-sizes : goal.returns-in_err-sizes
returns-in_err-sizes c =
    let p = err_from_is_err_and c.from_residual.result c.from_residual.ensures.1 in
    rw (p.1, p.2, c.in_err-sizes.ensures.0) (refused (sizes (λ s. false≢true (sym c.in_err-sizes.ensures.1 ∙ s))) (λ e. omega arith))

pub returns-then-not-lengths_fit : goal.returns-then-not-lengths_fit
returns-then-not-lengths_fit c =
    let s = c.in_ok-sizes.sizes in
    rw (← c.in_ok-sizes.ensures.0, ← c.in_ok-sizes.ensures.1)
    (refused (lengths s.is_served (not_sized s.counts (λ h. false≢true (c.if-not-lengths_fit.ensures.1 h)))) (λ e. omega arith))

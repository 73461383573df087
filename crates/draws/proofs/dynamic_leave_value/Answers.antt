use Rattle.std.proofs.lemmas.Result.{err_from_is_err_and}
use Rattle.draws.proofs.Answer.{answer_refused}
use Rattle.draws.proofs.dynamic_leave_value.Goals as goal

pub returns-in_err-tables : goal.returns-in_err-tables
returns-in_err-tables c =
    let p = err_from_is_err_and c.from_residual.result c.from_residual.ensures.1 in
    rw (p.1, p.2) (answer_refused c.in_err-tables.field-0.0 c.in_err-tables.ensures.err)

pub mean_of-requires : goal.mean_of-requires
mean_of-requires c =
    let g = c.in_ok-tables.ensures.given in
    rw (g.letters, g.tiles) c.in_ok-tables.ensures.fills

pub returns : goal.returns
returns c =
    let g = c.in_ok-tables.ensures.given in
    rw (g.letters, g.tiles, g.adds, g.fulls, g.pools) at c.mean_of.ensures

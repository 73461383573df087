use Rattle.std.proofs.Common.{arith}
use Rattle.std.proofs.lemmas.Result.{err_from_is_err_and}
use Rattle.lattice.specs.Answers.{len_answer}
use Rattle.lattice.specs.Served.{facts}
use Rattle.lattice.proofs.Calls.{len_gives}
use Rattle.lattice.proofs.Lattice.len.Goals as goal

pub returns-in_err-sizes : goal.returns-in_err-sizes
unfolding len_answer
returns-in_err-sizes c =
    let p = err_from_is_err_and c.from_residual.result c.from_residual.ensures.1 in
    rw (p.1, p.2, c.in_err-sizes.ensures.0) (len_gives (rw c.in_err-sizes.ensures.1))

pub overflow_cast-result : goal.overflow_cast-result
overflow_cast-result c =
    let s = c.in_ok-sizes.sizes in
    omega (arith, s.counts, (facts s.n s.r s.is_served).few)

pub returns : goal.returns
unfolding len_answer
returns c =
    let s = c.in_ok-sizes.sizes in
    rw (← c.in_ok-sizes.ensures.0, ← c.in_ok-sizes.ensures.1) (len_gives (rw (s.is_served, ← s.counts)))

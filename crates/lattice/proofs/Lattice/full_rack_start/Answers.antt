use Rattle.std.proofs.Common.{arith}
use Rattle.std.proofs.lemmas.Result.{err_from_is_err_and}
use Rattle.lattice.specs.Answers.{full_rack_start_answer}
use Rattle.lattice.specs.Served.{facts, length_small}
use Rattle.lattice.proofs.Ranks.{start_grows}
use Rattle.lattice.proofs.Calls.{full_rack_start_gives}
use Rattle.lattice.proofs.Lattice.full_rack_start.Goals as goal

pub returns-in_err-sizes : goal.returns-in_err-sizes
unfolding full_rack_start_answer
returns-in_err-sizes c =
    let p = err_from_is_err_and c.from_residual.result c.from_residual.ensures.1 in
    rw (p.1, p.2, c.in_err-sizes.ensures.0) (full_rack_start_gives (rw c.in_err-sizes.ensures.1))

pub overflow_cast-result : goal.overflow_cast-result
overflow_cast-result c =
    let s = c.in_ok-sizes.sizes in
    omega (arith, s.starts, start_grows s.n s.r s.r (omega arith), length_small s.n s.r (facts s.n s.r s.is_served))

pub returns : goal.returns
unfolding full_rack_start_answer
returns c =
    let s = c.in_ok-sizes.sizes in
    rw (← c.in_ok-sizes.ensures.0, ← c.in_ok-sizes.ensures.1) (full_rack_start_gives (rw (s.is_served, ← s.starts)))

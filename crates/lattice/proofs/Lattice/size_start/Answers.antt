use Rattle.std.proofs.Common.{◌≤◌, ◌+◌, le-leb, arith}
use Rattle.std.proofs.lemmas.Result.{err_from_is_err_and}
use borrow.Author.Tests.{lt-leb}
use Rattle.lattice.specs.Answers.{size_start_answer}
use Rattle.lattice.specs.Served.{facts, length_small}
use Rattle.lattice.proofs.Ranks.{start_grows}
use Rattle.lattice.proofs.Calls.{size_start_gives}
use Rattle.lattice.proofs.Lattice.size_start.Goals as goal

pub returns-in_err-sizes : goal.returns-in_err-sizes
unfolding size_start_answer
returns-in_err-sizes c =
    let p = err_from_is_err_and c.from_residual.result c.from_residual.ensures.1 in
    rw (p.1, p.2, c.in_err-sizes.ensures.0) (size_start_gives (rw c.in_err-sizes.ensures.1))

pub overflow_add-sizes : goal.overflow_add-sizes
overflow_add-sizes c = let f = facts _ _ c.in_ok-sizes.sizes.is_served in omega arith

pub returns-then-sizes-s : goal.returns-then-sizes-s
unfolding size_start_answer
returns-then-sizes-s c =
    let s = c.in_ok-sizes.sizes in
    rw (← c.in_ok-sizes.ensures.0, ← c.in_ok-sizes.ensures.1) (size_start_gives (rw (s.is_served, lt-leb c.args.s (s.r + 1) c.if-sizes-s.true)))

pub start_of-requires : goal.start_of-requires
start_of-requires c = let f = facts _ _ c.in_ok-sizes.sizes.is_served in record { letters = f.letters; tiles = omega arith }

pub overflow_cast-result : goal.overflow_cast-result
overflow_cast-result c =
    let s = c.in_ok-sizes.sizes in
    omega (arith, c.start_of.ensures, start_grows s.n c.args.s s.r (omega arith), length_small s.n s.r (facts s.n s.r s.is_served))

pub returns : goal.returns
unfolding size_start_answer
returns c =
    let s = c.in_ok-sizes.sizes in
    let l : c.args.s ≤ s.r + 1 = omega arith in
    rw (← c.in_ok-sizes.ensures.0, ← c.in_ok-sizes.ensures.1) (size_start_gives (rw (s.is_served, le-leb c.args.s (s.r + 1) l, ← c.start_of.ensures)))

use Rattle.std.proofs.Common.{◌+◌, ◌<◌, ◌≤◌, refl, add_comm, arith, le-ltb, lt-ltb, eq-eqb, ne_eqb}
use Rattle.std.proofs.lemmas.Result.{err_from_is_err_and}
use Rattle.binomials.specs.Binomial.{binomial}
use Rattle.lattice.specs.Answers.{unrank_number, tally_at}
use Rattle.lattice.proofs.Lattice.unrank_into.Goals as goal

pub returns-in_err-sizes : goal.returns-in_err-sizes
unfolding unrank_number
returns-in_err-sizes c =
    let p = err_from_is_err_and c.from_residual.result c.from_residual.ensures.1 in
    rw (p.1, p.2, c.in_err-sizes.ensures.0)
    (record { answered = rw c.in_err-sizes.ensures.1; untouched = λ f. refl; filled = λ z. absurd (omega arith) })

pub returns-then-out-sizes : goal.returns-then-out-sizes
unfolding unrank_number
returns-then-out-sizes c =
    let s = c.in_ok-sizes.sizes in
    rw (← c.in_ok-sizes.ensures.0, ← c.in_ok-sizes.ensures.1)
    (record { answered = rw (s.is_served, ne_eqb _ _ c.if-out-sizes.true); untouched = λ f. refl; filled = λ z. absurd (omega arith) })

pub returns-then-sizes-idx : goal.returns-then-sizes-idx
unfolding unrank_number
returns-then-sizes-idx c =
    let s = c.in_ok-sizes.sizes in
    let l : binomial (s.n + s.r) s.n ≤ c.args.idx = omega (arith, s.counts) in
    rw (← c.in_ok-sizes.ensures.0, ← c.in_ok-sizes.ensures.1)
    (record {
      answered = rw (s.is_served, eq-eqb _ _ c.if-out-sizes.false, le-ltb _ _ l);
      untouched = λ f. refl;
      filled = λ z. absurd (omega arith);
    })

pub unrank_within-requires : goal.unrank_within-requires
unrank_within-requires c = let s = c.in_ok-sizes.sizes in record { sizes = rw c.if-out-sizes.false s.is_served; inside = rw (c.if-out-sizes.false, add_comm s.r s.n) (omega (arith, s.counts)) }

pub returns : goal.returns
unfolding unrank_number
returns c =
    let s = c.in_ok-sizes.sizes in
    let l : c.args.idx < binomial (s.n + s.r) s.n = omega (arith, s.counts) in
    rw (← c.in_ok-sizes.ensures.0, ← c.in_ok-sizes.ensures.1)
    (record {
      answered = rw (s.is_served, eq-eqb _ _ c.if-out-sizes.false, lt-ltb _ _ l);
      untouched = λ f. absurd (f refl);
      filled = λ z. tally_at s.n s.r c.args.idx _ (rw c.if-out-sizes.false at c.unrank_within.ensures);
    })

use Rattle.std.proofs.Common.{sym, refl, ◌∙◌, arith, eq-eqb, ne_eqb}
use Rattle.std.proofs.lemmas.Result.{err_from_is_err_and}
use Rattle.lattice.specs.TableCalls.{add_number}
use Rattle.lattice.proofs.Lattice.fill_add.Goals as goal

pub returns-in_err-sizes : goal.returns-in_err-sizes
unfolding add_number
returns-in_err-sizes c =
    let p = err_from_is_err_and c.from_residual.result c.from_residual.ensures.1 in
    rw (p.1, p.2, c.in_err-sizes.ensures.0)
    (record { answered = rw c.in_err-sizes.ensures.1; untouched = λ f. refl; filled = λ z. absurd (omega arith) })

pub returns-then-add-entries : goal.returns-then-add-entries
unfolding add_number
returns-then-add-entries c =
    let s = c.in_ok-sizes.sizes in
    rw (← c.in_ok-sizes.ensures.0, ← c.in_ok-sizes.ensures.1)
    (record {
      answered = rw (s.is_served, ne_eqb _ _ (λ e. c.if-add-entries.true (e ∙ sym (c.entries.ensures))));
      untouched = λ f. refl;
      filled = λ z. absurd (omega arith);
    })

pub returns : goal.returns
unfolding add_number
returns c =
    let s = c.in_ok-sizes.sizes in
    let fits = c.if-add-entries.false ∙ c.entries.ensures in
    rw (← c.in_ok-sizes.ensures.0, ← c.in_ok-sizes.ensures.1)
    (record {
      answered = rw (s.is_served, eq-eqb _ _ fits);
      untouched = λ f. absurd (f refl);
      filled = λ z. c.fill_table.ensures;
    })

use Rattle.std.proofs.Common.{sym, refl, ◌∙◌, subst, arith}
use Rattle.std.proofs.lemmas.Result.{err_from_is_err_and}
use Rattle.lattice.specs.AddRows.{Turned}
use Rattle.lattice.specs.TableCalls.ByLetterNumber.{accepted, sizes, lengths, rule}
use Rattle.lattice.proofs.Layouts.{turned_letters}
use Rattle.lattice.proofs.Lattice.fill_by_letter.Goals.{then-add-whole-via-then-add-whole, then-add-whole-via-else-add-whole+then-by_letter-whole}
use Rattle.lattice.proofs.Lattice.fill_by_letter.Goals as goal

pub returns-in_err-sizes : goal.returns-in_err-sizes
returns-in_err-sizes c =
    let p = err_from_is_err_and c.from_residual.result c.from_residual.ensures.1 in
    rw (p.1, p.2, c.in_err-sizes.ensures.0)
    (record { answered = sizes c.in_err-sizes.ensures.1; untouched = λ f. refl; filled = λ z. absurd (omega arith) })

pub returns-then-add-whole : goal.returns-then-add-whole
returns-then-add-whole c =
    let s = c.in_ok-sizes.sizes in
    rw (← c.in_ok-sizes.ensures.0, ← c.in_ok-sizes.ensures.1)
    (record {
      answered = lengths s.is_served (λ e. elim c.then-add-whole.branch [
        | then-add-whole-via-then-add-whole w ↦ w.if-add-whole.true (e.0 ∙ sym (c.entries-whole.ensures))
        | then-add-whole-via-else-add-whole+then-by_letter-whole w ↦ w.if-by_letter-whole.true (e.1 ∙ sym (c.entries-whole.ensures))
      ]);
      untouched = λ f. refl;
      filled = λ z. absurd (omega arith);
    })

pub returns-then-not-add_is_right : goal.returns-then-not-add_is_right
returns-then-not-add_is_right c =
    let s = c.in_ok-sizes.sizes in
    rw (← c.in_ok-sizes.ensures.0, ← c.in_ok-sizes.ensures.1)
    (record {
      answered = rule s.is_served (c.if-add-whole.false ∙ c.entries-whole.ensures) (c.if-by_letter-whole.false ∙ c.entries-whole.ensures) (c.add_is_right.ensures.no (c.if-not-add_is_right.true));
      untouched = λ f. refl;
      filled = λ z. absurd (omega arith);
    })

pub returns : goal.returns
returns c =
    let s = c.in_ok-sizes.sizes in
    let right = c.add_is_right.ensures.yes c.if-not-add_is_right.false in
    rw (← c.in_ok-sizes.ensures.0, ← c.in_ok-sizes.ensures.1)
    (record {
      answered = accepted s.is_served (c.if-by_letter-whole.false ∙ c.entries-whole.ensures) right;
      untouched = λ f. absurd (f refl);
      filled = λ z. turned_letters s.n s.r c.args.add.now _ right (subst (λ k. Turned s.n k c.args.add.now c.turn_table.new.by_letter) s.starts c.turn_table.ensures);
    })

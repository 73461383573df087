-- `lattice::add::tables_are_right` meets its contract. A right table turned is the other. Assumes nothing.
use Rattle.std.proofs.Common.{ℕ, ◌<◌, length, subst, inr, ⊎_elim, arith}
use Rattle.std.proofs.lemmas.Bool.Decides.{nat_tests}
use Rattle.lattice.specs.AddRows.{Decides, Turned}
use Rattle.lattice.proofs.Layouts.{turned_letters, letters_turned}
use Rattle.lattice.proofs.add.tables_are_right.Goals as goal

pub returns-else-is_empty : goal.returns-else-is_empty
returns-else-is_empty c =
    let a = c.args in
    let ranks = c.add_is_right.ensures.yes c.if-add_is_right.true in
    let some : 0 < length a.by_letter.now = grind (arith, nat_tests) in
    let judged = subst (λ (k : ℕ). Decides c.is_turned.result (Turned a.sizes.n k a.add.now a.by_letter.now)) a.sizes.starts c.is_turned.ensures in
    record {
      yes = λ x. record { add_table = ranks; by_letter = inr (turned_letters a.sizes.n a.sizes.r a.add.now a.by_letter.now ranks (judged.yes x)) };
      no = λ x tables. ⊎_elim (λ e. omega arith) (λ letters. judged.no x (letters_turned a.sizes.n a.sizes.r a.add.now a.by_letter.now ranks letters)) tables.by_letter;
    }

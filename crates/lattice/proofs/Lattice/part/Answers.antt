use Rattle.std.proofs.Common.{◌≡◌, ℕ, ◌*◌, true, false, eqb, length, sym, ◌∙◌, inl, inr, ⊎_elim, eq-eqb, eqb-true, arith}
use mathlib.Core.Bool.{false≢true}
use Rattle.std.proofs.lemmas.Result.{err_from_is_err_and}
use Rattle.lattice.specs.Tally.{start}
use Rattle.lattice.specs.TableCalls.LetterNumber.{accepted, sizes, lengths, no_letter, rule}
use Rattle.lattice.proofs.Lattice.part.Goals.{Joined-else-not-is_empty, else-not-is_empty-via-then-not-is_empty+else-by_letter-entries, else-not-is_empty-via-else-not-is_empty}
use Rattle.lattice.proofs.Lattice.part.Goals as goal

-- what the test of no entries says
none : {k : ℕ} → true ≡ eqb k 0 → k ≡ 0
none {k} e = eqb-true k 0 (sym e)

some : {k : ℕ} → false ≡ eqb k 0 → k ≡ 0 → ⊥
some {k} e z = false≢true (e ∙ eq-eqb k 0 z)

pub returns-in_err-sizes-clause-number : goal.returns-in_err-sizes-clause-number
returns-in_err-sizes-clause-number c =
    let p = err_from_is_err_and c.from_residual.result c.from_residual.ensures.1 in
    rw (p.1, p.2, c.in_err-sizes.ensures.0) (sizes c.in_err-sizes.ensures.1)

pub returns-then-by_letter-entries-clause-number : goal.returns-then-by_letter-entries-clause-number
returns-then-by_letter-entries-clause-number c =
    let s = c.in_ok-sizes.sizes in
    rw (← c.in_ok-sizes.ensures.0, ← c.in_ok-sizes.ensures.1)
    (lengths s.is_served (some c.if-not-is_empty.ensures) (λ e. c.if-by_letter-entries.true (e ∙ sym (c.entries.ensures))))

pub returns-then-sizes-t-clause-number : goal.returns-then-sizes-t-clause-number
returns-then-sizes-t-clause-number c =
    let s = c.in_ok-sizes.sizes in
    rw (← c.in_ok-sizes.ensures.0, ← c.in_ok-sizes.ensures.1)
    (no_letter s.is_served (elim c.else-not-is_empty.branch [
      | else-not-is_empty-via-then-not-is_empty+else-by_letter-entries w ↦ inr (w.if-by_letter-entries.false ∙ w.entries.ensures)
      | else-not-is_empty-via-else-not-is_empty w ↦ inl (none w.if-not-is_empty.ensures)
    ]) (λ h. omega arith))

pub returns-then-is_empty-clause-number : goal.returns-then-is_empty-clause-number
returns-then-is_empty-clause-number c =
    let s = c.in_ok-sizes.sizes in
    rw (← c.in_ok-sizes.ensures.0, ← c.in_ok-sizes.ensures.1) (accepted s.is_served c.if-sizes-t.false (inl (none c.if-is_empty.ensures)))

-- a table that has entries is whole
full : (c : goal.Joined-else-not-is_empty) → (length c.args.by_letter.now ≡ 0 → ⊥) → length c.args.by_letter.now ≡ start c.in_ok-sizes.sizes.n c.in_ok-sizes.sizes.r * c.in_ok-sizes.sizes.n
full c f = elim c.else-not-is_empty.branch [
  | else-not-is_empty-via-then-not-is_empty+else-by_letter-entries w ↦ w.if-by_letter-entries.false ∙ w.entries.ensures
  | else-not-is_empty-via-else-not-is_empty w ↦ absurd (f (none w.if-not-is_empty.ensures))
]

pub returns-then-not-by_letter_is_right-clause-number : goal.returns-then-not-by_letter_is_right-clause-number
returns-then-not-by_letter_is_right-clause-number c =
    let s = c.in_ok-sizes.sizes in
    let entries = some c.if-is_empty.ensures in
    rw (← c.in_ok-sizes.ensures.0, ← c.in_ok-sizes.ensures.1)
    (rule s.is_served c.if-sizes-t.false (full (goal.at.returns-then-not-by_letter_is_right-clause-number c).Joined-else-not-is_empty entries)
    (⊎_elim entries (c.by_letter_is_right.ensures.no c.if-not-by_letter_is_right.true)))

pub returns-clause-number : goal.returns-clause-number
returns-clause-number c =
    let s = c.in_ok-sizes.sizes in
    rw (← c.in_ok-sizes.ensures.0, ← c.in_ok-sizes.ensures.1)
    (accepted s.is_served c.if-sizes-t.false (inr (c.by_letter_is_right.ensures.yes c.if-not-by_letter_is_right.false)))

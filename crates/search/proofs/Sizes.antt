-- What the sizes of a rack and of two tables tell. Assumes nothing.
use Rattle.std.proofs.Common.{◌≡◌, ℕ, ◌+◌, ◌≤◌, ◌<◌, true, false, ◌&&◌, eqb, List, length, sym, ◌∙◌, eq-eqb, ne_eqb, le-leb}
use borrow.Author.Tests.{lt-leb}
use Rattle.binomials.specs.Binomial.{binomial}
use Rattle.lattice.specs.Tally.{total}
use Rattle.lattice.specs.Answers.{served}
use Rattle.search.specs.Best.{and_false, and_false_left}
use Rattle.search.specs.Refusals.{lengths, sizes_number, number_0, number_2, number_4}

module _ (n r sheet leave : ℕ) (t : List ℕ) (s : served n r ≡ true) where
  abbrev long : ℕ
  long = binomial (n + r) n

  pub wrong_tally : (length t ≡ n → ⊥) → sizes_number n r sheet leave t ≡ 2
  wrong_tally h = number_2 n r sheet leave t s (and_false (eqb sheet long && eqb leave long) (eqb (length t) n) (ne_eqb (length t) n h))

  module _ {size : ℕ} (e : size ≡ long) where
    either : eqb sheet long && eqb leave long ≡ false → sizes_number n r sheet leave t ≡ 2
    either h = number_2 n r sheet leave t s (and_false_left (eqb sheet long && eqb leave long) (eqb (length t) n) h)

    pub wrong_sheet : (sheet ≡ size → ⊥) → sizes_number n r sheet leave t ≡ 2
    wrong_sheet h = either (and_false_left (eqb sheet long) (eqb leave long) (ne_eqb sheet long (λ q. h (q ∙ sym e))))

    pub wrong_leave : (leave ≡ size → ⊥) → sizes_number n r sheet leave t ≡ 2
    wrong_leave h = either (and_false (eqb sheet long) (eqb leave long) (ne_eqb leave long (λ q. h (q ∙ sym e))))

    module _ (f : sheet ≡ size) (g : leave ≡ size) (h : length t ≡ n) where
      fit : lengths n r sheet leave t ≡ true
      fit = rw (eq-eqb sheet long (f ∙ e), eq-eqb leave long (g ∙ e), eq-eqb (length t) n h)

      pub too_many : r < total t → sizes_number n r sheet leave t ≡ 4
      too_many k = number_4 n r sheet leave t s fit (lt-leb (total t) r k)

      pub all_fit : total t ≤ r → sizes_number n r sheet leave t ≡ 0
      all_fit k = number_0 n r sheet leave t s fit (le-leb (total t) r k)

-- From the racks that are written to the answer of the table call. Assumes nothing.
use mathlib.Core.Path.{◌≡◌, refl, sym, ◌∙◌, subst}
use mathlib.Core.Bool.{true, false, ◌&&◌}
use mathlib.Core.List.{List}
use Prim.Native.Nat.{ℕ, ◌+◌}
use borrow.Author.Tests.{eq-eqb, ne_eqb}
use lib.Dec.{eqb}
use lib.IntN.{ℤ}
use lib.ListN.{length}
use Rattle.binomials.specs.Binomial.{binomial}
use Rattle.lattice.specs.Tally.{start}
use Rattle.lattice.specs.Answers.{served}
use Rattle.lattice.specs.Served.{facts}
use Rattle.search.specs.Split.{small, all_of}
use Rattle.search.specs.Racks.{Filled, filled_rack}
use Rattle.search.specs.Best.{and_false, and_false_left}
use Rattle.search.specs.Refusals.{table_number}
use Rattle.search.specs.Answers.{Tabled}

module _ (n r : ℕ) (sheet leave entry : List ℤ) where
  -- refused: nothing is written
  pub tabled_refused : {k : ℕ} → k ≡ table_number n r sheet leave (length entry) → (k ≡ 0 → ⊥) → Tabled n r sheet leave entry k entry
  tabled_refused e f = record { answered = e; untouched = λ g. refl; size = refl; full = λ z. absurd (f z); below = λ z. absurd (f z) }

  pub table_1 : served n r ≡ false → table_number n r sheet leave (length entry) ≡ 1
  unfolding table_number
  table_1 e = rw e

  module _ (e : served n r ≡ true) where
    abbrev long : ℕ
    long = binomial (n + r) n

    table_2 : eqb (length sheet) long && eqb (length leave) long && eqb (length entry) long ≡ false → table_number n r sheet leave (length entry) ≡ 2
    unfolding table_number
    table_2 l = rw (e, l)

    module _ {size : ℕ} (f : size ≡ long) where
      pub wrong_sheet : (length sheet ≡ size → ⊥) → table_number n r sheet leave (length entry) ≡ 2
      wrong_sheet h =
          table_2
          (and_false_left (eqb (length sheet) long && eqb (length leave) long) (eqb (length entry) long)
          (and_false_left (eqb (length sheet) long) (eqb (length leave) long) (ne_eqb _ _ (λ q. h (q ∙ sym f)))))

      pub wrong_leave : (length leave ≡ size → ⊥) → table_number n r sheet leave (length entry) ≡ 2
      wrong_leave h =
          table_2
          (and_false_left (eqb (length sheet) long && eqb (length leave) long) (eqb (length entry) long)
          (and_false (eqb (length sheet) long) (eqb (length leave) long) (ne_eqb _ _ (λ q. h (q ∙ sym f)))))

      pub wrong_out : (length entry ≡ size → ⊥) → table_number n r sheet leave (length entry) ≡ 2
      wrong_out h =
          table_2 (and_false (eqb (length sheet) long && eqb (length leave) long) (eqb (length entry) long) (ne_eqb _ _ (λ q. h (q ∙ sym f))))

    module _ (a : length sheet ≡ binomial (n + r) n) (b : length leave ≡ binomial (n + r) n) (d : length entry ≡ binomial (n + r) n) where
      table_5 : all_of small sheet && all_of small leave ≡ false → table_number n r sheet leave (length entry) ≡ 5
      unfolding table_number
      table_5 k = rw (e, eq-eqb _ _ a, eq-eqb _ _ b, eq-eqb _ _ d, k)

      pub beyond_sheet : all_of small sheet ≡ false → table_number n r sheet leave (length entry) ≡ 5
      beyond_sheet k = table_5 (and_false_left (all_of small sheet) (all_of small leave) k)

      pub beyond_leave : all_of small leave ≡ false → table_number n r sheet leave (length entry) ≡ 5
      beyond_leave k = table_5 (and_false (all_of small sheet) (all_of small leave) k)

      module _ (p : all_of small sheet ≡ true) (q : all_of small leave ≡ true) where
        table_0 : table_number n r sheet leave (length entry) ≡ 0
        unfolding table_number
        table_0 = rw (e, eq-eqb _ _ a, eq-eqb _ _ b, eq-eqb _ _ d, p, q)

        pub tabled_filled : {m : ℕ} {exit : List ℤ} → m ≡ n → Filled sheet leave (λ i. true) m r (start m r) entry exit → Tabled n r sheet leave entry 0 exit
        tabled_filled {exit = exit} q g =
            let k = facts n r e in
            let f = subst (λ (j : ℕ). Filled sheet leave (λ i. true) j r (start j r) entry exit) q g in
            record {
              answered = sym table_0;
              untouched = λ g. absurd (g refl);
              size = f.size;
              full = λ z t l s. filled_rack k.some_letter k.some_tile f t (record { letters = l; tiles = s }) refl;
              below = λ z i h. f.below i h;
            }

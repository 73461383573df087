-- From what a search of a rack finds to its answer. Assumes nothing.
use mathlib.Core.Path.{◌≡◌, refl, sym, ap, ap₂, ◌∙◌, subst}
use mathlib.Core.List.{List}
use Prim.Native.Nat.{ℕ, ◌+◌, ◌≤◌}
use native.Mathlib.Omega.{arith}
use lib.IntN.{ℤ}
use lib.ListN.{length}
use mathlib.Core.Bool.{Bool, true, false}
use Rattle.binomials.specs.Binomial.{binomial}
use Rattle.lattice.specs.Tally.{total}
use Rattle.search.specs.Counts.{at_most}
use Rattle.search.specs.Split.{best_split, parts_small, Held}
use Rattle.search.specs.Refusals.{or_else, or_first, sizes_number, entries_number, rack_number, Sized, sized, entries_0, entries_5, within_length}
use Rattle.search.specs.Answers.{given, given_refused, best_value, Answered}
use Rattle.refusal.specs.Refusal.{code_of, code_some}
use Rattle.refusal.specs.declared.Refusal.{Refusal}
use Rattle.refusal.specs.declared.Refusal.TheVariants.{Entry}
use Rattle.std.specs.Prelude.{Option, Some, None, Result, Ok, Err, SomeIff, ok_or}
use Rattle.whole.specs.Mean.{unplayable}

-- what the search asks
pub sized_held : {n r : ℕ} (sheet leave : List ℤ) (t : List ℕ) → Sized n r (length sheet) (length leave) t → Held sheet leave t
sized_held {n} {r} sheet leave t s =
    let room : at_most (length t) (total t) ≤ binomial (n + r) n = subst (λ (k : ℕ). at_most k (total t) ≤ binomial (n + r) n) (sym s.letters) (within_length n r (total t) s.tiles) in
    record {
      few = omega (arith, s.letters, s.sizes.letters);
      tiles = omega (arith, s.tiles, s.sizes.tiles);
      in_sheet = omega (arith, room, s.in_sheet);
      in_leave = omega (arith, room, s.in_leave);
    }

not_true : (b : Bool) → (b ≡ true → ⊥) → b ≡ false
not_true true f = absurd (f refl)
not_true false f = refl

module _ {refusal : ℕ} {best : ℤ} where
  accepted : refusal ≡ 0 → {v : ℤ} → v ≡ best → Answered refusal best (Ok v)
  unfolding given best_value
  accepted z e = record { is = λ _. ap Ok e; numbered = sym z; valued = rw z e }

  refused : {b : Result ℤ Refusal} (e : Refusal) → b ≡ Err e → code_of e ≡ refusal → Answered refusal best b
  unfolding best_value
  refused e is k =
      let some = λ (z : refusal ≡ 0). code_some e (k ∙ z) in
      rw is (record { is = λ z. absurd (some z); numbered = k; valued = sym (given_refused refusal best unplayable some) })

module _ (n r : ℕ) (sheet leave : List ℤ) (t : List ℕ) where
  -- what the sizes refuse
  pub rack_refused : (best : ℤ) {b : Result ℤ Refusal} (e : Refusal) → b ≡ Err e → code_of e ≡ sizes_number n r (length sheet) (length leave) t → Answered (rack_number n r sheet leave t) best b
  unfolding rack_number
  rack_refused best e is k = refused e is (k ∙ sym (or_first (entries_number sheet leave n t) (λ z. code_some e (k ∙ z))))

  -- what the search finds, where they refuse nothing
  module _ (none : sizes_number n r (length sheet) (length leave) t ≡ 0) where
    here : {v : ℤ} → v ≡ best_split sheet leave (length t) t → v ≡ best_split sheet leave n t
    here e = e ∙ ap (λ (k : ℕ). best_split sheet leave k t) (sized n r (length sheet) (length leave) t none).letters

    parts_here : {b : Bool} → parts_small sheet leave (length t) t ≡ b → parts_small sheet leave n t ≡ b
    parts_here e = ap (λ (k : ℕ). parts_small sheet leave k t) (sym (sized n r (length sheet) (length leave) t none).letters) ∙ e

    pub rack_found : {v : ℤ} → parts_small sheet leave (length t) t ≡ true → v ≡ best_split sheet leave (length t) t → Answered (rack_number n r sheet leave t) (best_split sheet leave n t) (Ok v)
    unfolding rack_number or_else
    rack_found all is = accepted (ap₂ or_else none (entries_0 sheet leave n t (parts_here all))) (here is)

    pub rack_beyond : (parts_small sheet leave (length t) t ≡ true → ⊥) → Answered (rack_number n r sheet leave t) (best_split sheet leave n t) (Err Entry)
    unfolding rack_number or_else
    rack_beyond beyond = refused Entry refl (sym (ap₂ or_else none (entries_5 sheet leave n t (parts_here (not_true _ beyond)))))

    pub rack_answer : (o : Option ℤ) → SomeIff o (parts_small sheet leave (length t) t ≡ true) (best_split sheet leave (length t) t) → Answered (rack_number n r sheet leave t) (best_split sheet leave n t) (ok_or o Entry)
    rack_answer (Some v) s = rack_found s.0 s.1
    rack_answer None f = rack_beyond f

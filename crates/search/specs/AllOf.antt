-- A test that holds of every element of a list, by the elements' places. Assumes nothing.
use Rattle.std.specs.Prelude.{◌≡◌, ℕ, zero, suc, ◌<◌, Bool, true, false, ◌&&◌, List, [], ◌∷◌, length, get_or, drop}
use Rattle.std.proofs.Common.{refl, sym, ap, ◌∙◌, not-suc-le-zero, le_of_suc-le-suc, drop-cons}
use Rattle.laws.specs.Tests.{and_left, and_right}
use Rattle.search.specs.Split.{all_of}

module _ {A : Type 0} (p : A → Bool) where
  pub all_nil : all_of p [] ≡ true
  unfolding all_of
  all_nil = refl

  pub all_cons : (x : A) (xs : List A) → all_of p (x ∷ xs) ≡ p x && all_of p xs
  unfolding all_of
  all_cons x xs = refl

  pub all_at : (xs : List A) (i : ℕ) (d : A) → all_of p xs ≡ true → i < length xs → p (get_or xs i d) ≡ true
  unfolding all_of
  all_at [] i d e h = absurd (not-suc-le-zero h)
  all_at (x ∷ xs) zero d e h = and_left (p x) (all_of p xs) e
  all_at (x ∷ xs) (suc i) d e h = all_at xs i d (and_right (p x) (all_of p xs) e) (le_of_suc-le-suc h)

  -- one element fails
  pub all_not : (xs : List A) (i : ℕ) (d : A) → i < length xs → p (get_or xs i d) ≡ false → all_of p xs ≡ false
  all_not xs i d h f = go (all_of p xs) refl
    where
      go : (b : Bool) → all_of p xs ≡ b → b ≡ false
      go false e = refl
      go true e = sym (all_at xs i d e h) ∙ f

  -- one element more, at j
  pub all_step : (xs : List A) (j i : ℕ) (d : A) → suc j ≡ i → j < length xs → p (get_or xs j d) ≡ true → all_of p (drop i xs) ≡ true → all_of p (drop j xs) ≡ true
  all_step xs j i d e h t b = ap (all_of p) (drop-cons xs j d h) ∙ rw (all_cons, t, e) b

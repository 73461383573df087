use Rattle.std.proofs.Common.{◌≡◌, ℕ, ◌<◌, zero, suc, List, [], ◌∷◌, Bool, true, false, length, get_or, IsTrue, arith, rules}
use Rattle.std.specs.List.{AllZip, AllWithin, HoldsAt, zip}
use Rattle.std.specs.Bool.{MatchBool}

module _ {A B : Type 0} (R : A → B → Type 0) where
  each_zipped : (xs : List A) (ys : List B) → length xs ≡ length ys
      → AllWithin (λ p. R p.0 p.1) (zip xs ys) 0 (length (zip xs ys)) → AllZip R xs ys
  each_zipped [] [] e h = tt
  each_zipped [] (y ∷ ys) e h = absurd (omega arith)
  each_zipped (x ∷ xs) [] e h = absurd (omega arith)
  each_zipped (x ∷ xs) (y ∷ ys) e h = (
    h 0 (x, y) (omega arith) (omega arith),
    each_zipped xs ys (omega arith) (λ k d a b. h (suc k) d (omega arith) (omega arith)),
  )

  zipped_at : (xs : List A) (ys : List B) → AllZip R xs ys → (k : ℕ) (d : A × B)
      → k < length (zip xs ys) → R (get_or (zip xs ys) k d).0 (get_or (zip xs ys) k d).1
  zipped_at [] ys h k d l = absurd (omega arith)
  zipped_at (x ∷ xs) [] h k d l = absurd (omega arith)
  zipped_at (x ∷ xs) (y ∷ ys) h zero d l = h.0
  zipped_at (x ∷ xs) (y ∷ ys) h (suc k) d l = zipped_at xs ys h.1 k d (omega arith)

  none_fails : (xs : List A) (ys : List B) → AllZip R xs ys
      → (k : ℕ) × (k < length (zip xs ys)) × HoldsAt (λ p. R p.0 p.1 → ⊥) (zip xs ys) k → ⊥
  none_fails [] ys h f = absurd (omega (arith, f.1))
  none_fails (x ∷ xs) [] h f = absurd (omega (arith, f.1))
  none_fails (x ∷ xs) (y ∷ ys) h f = f.2 (x, y) (zipped_at (x ∷ xs) (y ∷ ys) h f.0 (x, y) f.1)

  -- what `all` over a `zip` of two slices of one length says of them
  pub all_zip_of : (xs : List A) (ys : List B) (r : Bool) → length xs ≡ length ys
      → MatchBool r (AllWithin (λ p. R p.0 p.1) (zip xs ys) 0 (length (zip xs ys)))
      ((k : ℕ) × (k < length (zip xs ys)) × HoldsAt (λ p. R p.0 p.1 → ⊥) (zip xs ys) k)
      → (IsTrue r → AllZip R xs ys) × (AllZip R xs ys → IsTrue r)
  all_zip_of xs ys true e h = ((λ _. each_zipped xs ys e h), λ _. search rules)
  all_zip_of xs ys false e h = ((λ t. absurd (search rules)), λ z. absurd (none_fails xs ys z h))

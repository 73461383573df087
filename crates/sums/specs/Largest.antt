-- The largest absolute entry of a table, and what it bounds. Assumes nothing.
use Rattle.std.specs.Prelude.{◌≡◌, refl, Bool, true, false, ◌&&◌, List, [], ◌∷◌, ◌++◌, ℕ, zero, suc, ◌+◌, ◌≤◌, ◌<◌, max, leb, ℤ, pos, length, take}
use Rattle.std.proofs.Common.{sym, ap, ◌∙◌, leb-true, leb-false, le-leb, take-suc, le_of_eq, add-one, arith}
use Rattle.std.proofs.lemmas.Bool.{lt-leb}
use Rattle.std.proofs.Math.IntN.{nat_abs}
use Rattle.std.proofs.Math.Nat.{le_trans}
use Rattle.std.specs.List.{fold}
use Rattle.laws.specs.Integer.{at_ℤ, nat_abs-+ℤ}
use Rattle.lattice.specs.Tally.{minus, rank_of}
use Rattle.search.specs.Split.{worth, best_split, Bounded, small, all_of}
use Rattle.search.specs.Best.{best_attained}
use Rattle.sums.specs.Weight.{largest}

-- it is the least bound
pub largest_bounds : (xs : List ℤ) → Bounded (largest xs) xs
unfolding Bounded largest
largest_bounds [] j = omega arith
largest_bounds (x ∷ xs) zero = omega arith
largest_bounds (x ∷ xs) (suc j) = let h = largest_bounds xs j in omega arith

pub largest_least : (xs : List ℤ) (B : ℕ) → Bounded B xs → largest xs ≤ B
unfolding Bounded largest
largest_least [] B h = omega arith
largest_least (x ∷ xs) B h = let l = largest_least xs B (λ j. h (suc j)) in omega (arith, h 0)

-- one entry more
largest_snoc : (xs : List ℤ) (x : ℤ) → largest (xs ++ (x ∷ [])) ≡ max (largest xs) (nat_abs x)
unfolding largest
largest_snoc [] x = omega arith
largest_snoc (y ∷ ys) x = let e = largest_snoc ys x in omega arith

-- of the first entries, one more
pub largest_none : (xs : List ℤ) → 0 ≡ largest (take 0 xs)
unfolding largest
largest_none xs = refl

pub largest_more : (xs : List ℤ) (i : ℕ) {a b : ℕ} → i < length xs → a ≡ largest (take i xs) → b ≡ max a (nat_abs (at_ℤ xs i)) → b ≡ largest (take (i + 1) xs)
largest_more xs i h p q =
    q ∙ ap (λ (k : ℕ). max k (nat_abs (at_ℤ xs i))) p ∙ sym (ap (λ (k : ℕ). largest (take k xs)) (add-one i) ∙ ap largest (take-suc xs i (pos 0) h) ∙ largest_snoc (take i xs) (at_ℤ xs i))

-- read from the first on
pub largest_fold : (m : ℕ) (xs : List ℤ) → fold (λ (a : ℕ) (x : ℤ). max a (nat_abs x)) m xs ≡ max m (largest xs)
unfolding largest
largest_fold m [] = omega arith
largest_fold m (x ∷ xs) = let e = largest_fold (max m (nat_abs x)) xs in omega arith

-- no entry is beyond ±536,870,911 where the largest is not
leb_max : (a b B : ℕ) → leb a B && leb b B ≡ leb (max a b) B
leb_max a b B = go (leb a B) (leb b B) refl refl
  where
    go : (s t : Bool) → leb a B ≡ s → leb b B ≡ t → s && t ≡ leb (max a b) B
    go true true p q = sym (le-leb (max a b) B (omega (arith, leb-true a B p, leb-true b B q)))
    go true false p q = sym (lt-leb (max a b) B (omega (arith, leb-false b B q)))
    go false t p q = sym (lt-leb (max a b) B (omega (arith, leb-false a B p)))

pub small_largest : (xs : List ℤ) → all_of small xs ≡ leb (largest xs) 536870911
unfolding all_of small largest
small_largest [] = refl
small_largest (x ∷ xs) = ap (λ (t : Bool). leb (nat_abs x) 536870911 && t) (small_largest xs) ∙ leb_max (nat_abs x) (largest xs) 536870911

-- and both tables together
pub both_small : (sheet leave : List ℤ) → all_of small sheet && all_of small leave ≡ leb (max (largest sheet) (largest leave)) 536870911
both_small sheet leave = rw (small_largest sheet, small_largest leave) (leb_max (largest sheet) (largest leave) 536870911)

-- no best split is above the largest sheet and the largest leave together
module _ (sheet leave : List ℤ) (n : ℕ) where
  pub split_most : (A B : ℕ) → Bounded A sheet → Bounded B leave → (t : List ℕ) → nat_abs (best_split sheet leave n t) ≤ A + B
  unfolding worth Bounded
  split_most A B a b t =
      let w = best_attained sheet leave n t in
      le_trans (le_of_eq (ap nat_abs (sym w.2))) (nat_abs-+ℤ (at_ℤ sheet (rank_of n w.0)) (at_ℤ leave (rank_of n (minus t w.0))) (a (rank_of n w.0)) (b (rank_of n (minus t w.0))))

  pub split_largest : (t : List ℕ) → nat_abs (best_split sheet leave n t) ≤ largest sheet + largest leave
  split_largest = split_most (largest sheet) (largest leave) (largest_bounds sheet) (largest_bounds leave)

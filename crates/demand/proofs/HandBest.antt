-- A hand's best, over its partings, is the best split of its rack. Assumes nothing.
use Rattle.std.specs.Prelude.{◌≡◌, ◌⊎◌, ℤ}
use Rattle.std.proofs.Math.Path.{refl, sym}
use Rattle.std.proofs.Common.{◌∙◌, subst}
use Rattle.std.proofs.Math.Logic.{inl, inr, ⊎_elim}
use mathlib.Core.List.Memᴰ
use mathlib.Core.List.{List, [], ◌∷◌, Memᴰ}
use Rattle.std.specs.Int.Signed.{◌≤ℤ◌, ≤ℤ_refl}
use Rattle.laws.specs.Integer.{max_ℤ, ≤ℤ-trans, ≤ℤ-antisym, ≤-max_left, ≤-max_right, max_one}
use Rattle.laws.specs.Every.{Every, every_nil, every_cons, every_at}
use Rattle.laws.specs.Greatest.{GreatestOver}
use Rattle.hands.specs.Hands.{Tile, rack_of}
use Rattle.hands.specs.Partings.{partings}
use Rattle.search.specs.Split.{best_split}
use Rattle.search.specs.Hand.{best_of_hand}
use Rattle.demand.specs.Demand.{Board, greatest_from, greatest, worth, hand_best}

module _ {A : Type 0} (f : A → ℤ) where
  -- g is the greatest of v and of f over a list
  record From (v : ℤ) (xs : List A) (g : ℤ) : Type 0 where
    above : v ≤ℤ g
    bound : Every (λ x. f x ≤ℤ g) xs
    attained : (g ≡ v) ⊎ ((x : A) × Memᴰ x xs × (f x ≡ g))

  from : (v : ℤ) (xs : List A) → From v xs (greatest_from v f xs)
  unfolding greatest_from
  from v [] = record { above = ≤ℤ_refl v; bound = every_nil; attained = inl refl }
  from v (x ∷ xs) =
      let r = from (max_ℤ v (f x)) xs in
      record {
        above = ≤ℤ-trans (≤-max_left v (f x)) r.above;
        bound = every_cons (≤ℤ-trans (≤-max_right v (f x)) r.above) r.bound;
        attained = ⊎_elim
            (λ e. ⊎_elim (λ m. inl (e ∙ m)) (λ m. inr (x, Memᴰ.head refl, sym (e ∙ m))) (max_one v (f x)))
            (λ w. inr (w.0, Memᴰ.tail w.1, w.2)) r.attained;
      }

  pub greatest_over : {x : A} (xs : List A) → Memᴰ x xs → GreatestOver ◌≤ℤ◌ xs f (greatest f xs)
  unfolding greatest
  greatest_over [] m = absurd (Memᴰ.not-nil m)
  greatest_over (x ∷ xs) m = go (from (f x) xs).attained
    where
      go : (greatest_from (f x) f xs ≡ f x) ⊎ ((y : A) × Memᴰ y xs × (f y ≡ greatest_from (f x) f xs)) → GreatestOver ◌≤ℤ◌ (x ∷ xs) f (greatest_from (f x) f xs)
      go (inl e) = record { above = every_cons (from (f x) xs).above (from (f x) xs).bound; at = x; there = Memᴰ.head refl; attained = sym e }
      go (inr w) = record { above = every_cons (from (f x) xs).above (from (f x) xs).bound; at = w.0; there = Memᴰ.tail w.1; attained = w.2 }

  over_unique : {xs : List A} {u v : ℤ} → GreatestOver ◌≤ℤ◌ xs f u → GreatestOver ◌≤ℤ◌ xs f v → u ≡ v
  over_unique {xs} g h = ≤ℤ-antisym (below g h) (below h g)
    where
      below : {u v : ℤ} → GreatestOver ◌≤ℤ◌ xs f u → GreatestOver ◌≤ℤ◌ xs f v → u ≤ℤ v
      below {v = v} a b = subst (λ (z : ℤ). z ≤ℤ v) a.attained (every_at b.above a.there)

pub hand_best_lem : (b : Board) (h : List Tile) → hand_best b h ≡ best_split b.sheet b.leave b.n (rack_of b.n h)
unfolding hand_best
hand_best_lem b h =
    let split = best_of_hand b.sheet b.leave b.n h in
    over_unique (worth b) (greatest_over (worth b) (partings h) split.there) split

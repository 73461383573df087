-- The sums reached by adding each rack to its parts are those over the racks that hold each part. Assumes nothing.
use Rattle.std.specs.Prelude.{◌≡◌, refl, Bool, true, false, not, ◌&&◌, ℕ, suc, ◌≤◌, ◌<◌, length, T, leb, eqb}
use Rattle.std.proofs.Common.{sym, ◌∙◌, suc-ne-zero, arith, leb→le}
use Rattle.std.proofs.Math.Path.{ap}
use Rattle.std.proofs.Math.Bool.{cond}
use mathlib.Core.List.{List, [], ◌∷◌}
use Rattle.std.proofs.Math.Nat.{suc_inj}
use Rattle.std.proofs.Math.Dec.{nleb→lt}
use Rattle.laws.specs.Sums.{Additive, sum_in, sum_cong, sum_cong_on, sum_none, plus_none}
use Rattle.lattice.specs.Tally.{parts, tallies}
use Rattle.laws.specs.Lists.{upto}
use Rattle.laws.specs.Every.{every_weaken, upto_below}
use Rattle.laws.specs.Tests.{eqb_other}
use Rattle.hands.specs.Hands.{holds, tallies_every}
use Rattle.hands.specs.Fold.{sum_pick, gather}
use Rattle.hands.specs.PartSums.{same, sum_parts_cons}

module _ (𝓜 : Additive) where
  open 𝓜 use {Carrier, none, plus}

  -- one number of those up to c, if it is there
  sum_pick_test : (c x : ℕ) (f : ℕ → Carrier) → sum_in 𝓜 (upto (suc c)) (λ k. cond (eqb x k) (f k) none) ≡ cond (leb x c) (f x) none
  sum_pick_test c x f = one (leb x c) (leb→le x c) (nleb→lt x c)
    where
      one : (b : Bool) → (T b → x ≤ c) → (T (not b) → c < x) → sum_in 𝓜 (upto (suc c)) (λ k. cond (eqb x k) (f k) none) ≡ cond b (f x) none
      one true h g = sum_pick 𝓜 (suc c) x f (let l : x ≤ c = h tt in omega arith)
      one false h g =
          let l : c < x = g tt in
          sum_cong_on 𝓜 (every_weaken (λ k d. ap (λ b. cond b (f k) none) (eqb_other x k (omega arith))) (upto_below (suc c))) ∙ sum_none 𝓜 (upto (suc c))

  cond_both : (a b : Bool) (z : Carrier) → cond a (cond b z none) none ≡ cond (a && b) z none
  cond_both true b z = refl
  cond_both false b z = refl

  -- the part m of a rack, once if the rack holds it and not at all otherwise
  pub sum_parts : (t m : List ℕ) (f : List ℕ → Carrier) → length m ≡ length t → sum_in 𝓜 (parts t) (λ p. cond (same m p) (f p) none) ≡ cond (holds t m) (f m) none
  unfolding parts
  sum_parts [] [] f e = plus_none 𝓜 (f [])
  sum_parts [] (x ∷ m) f e = absurd (suc-ne-zero (length m) e)
  sum_parts (c ∷ t) [] f e = absurd (suc-ne-zero (length t) (sym e))
  sum_parts (c ∷ t) (x ∷ m) f e =
      sum_parts_cons 𝓜 c t _
      ∙ sum_cong 𝓜 (upto (suc c)) (λ k. gather 𝓜 (eqb x k) (parts t) (same m) (λ p. f (k ∷ p)))
      ∙ sum_pick_test c x (λ k. sum_in 𝓜 (parts t) (λ p. cond (same m p) (f (k ∷ p)) none))
      ∙ ap (λ a. cond (leb x c) a none) (sum_parts t m (λ p. f (x ∷ p)) (suc_inj e))
      ∙ cond_both (leb x c) (holds t m) (f (x ∷ m))

  -- so each full rack added to its parts gives the sum over the racks that hold m
  pub sum_added : (n r : ℕ) (g : List ℕ → Carrier) (m : List ℕ) → length m ≡ n
      → sum_in 𝓜 (tallies n r) (λ t. sum_in 𝓜 (parts t) (λ p. cond (same m p) (g t) none)) ≡ sum_in 𝓜 (tallies n r) (λ t. cond (holds t m) (g t) none)
  sum_added n r g m e = sum_cong_on 𝓜 (every_weaken (λ t h. sum_parts t m (λ p. g t) (e ∙ sym h.0)) (tallies_every n r))

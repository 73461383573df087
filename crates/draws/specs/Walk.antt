-- The walk over the draws, a letter at a time: the racks that it meets, and what it makes of them. Assumes nothing.
use Rattle.std.specs.Prelude.{◌≡◌, ℤ, pos, nat_abs, Float}
use Rattle.std.proofs.Math.Path.{refl, ap}
use Rattle.std.proofs.Common.{sym, ap₂, ◌∙◌, mul-one}
use mathlib.Core.List.{List, [], ◌∷◌, ◌++◌, append-nil}
use Prim.Native.Nat.{ℕ, zero, suc, ◌-◌, ◌*◌, ◌<◌, ◌^◌, min, max}
use native.Mathlib.Omega.{arith}
use Rattle.std.specs.Int.Signed.{mag}
use Rattle.std.specs.Float.{binary64}
use Rattle.std.specs.Float.Ieee.{add, mul, div}
use Rattle.laws.specs.Integer.{at_ℤ}
use Rattle.laws.specs.Lists.{upto, upto_zero, upto_suc, concat_map, concat_map_one, concat_map_append}
use Rattle.laws.specs.Every.{Every, every_nil, every_cons, every_append}
use Rattle.whole.specs.Whole.{whole}
use Rattle.binomials.specs.Binomial.{binomial, binomial_zero}
use Rattle.lattice.specs.Tally.{total, total_cons}
use Rattle.lattice.specs.Tables.{up}
use Rattle.draws.specs.declared.walk.Totals.{Totals}

-- ---- the racks that are met

-- C(u, c) by the running product
unfoldable pub running : ℕ → ℕ → Float
running u zero = whole (pos 1)
running u (suc c) = div binary64 (mul binary64 (running u c) (whole (pos (u - c)))) (whole (pos (suc c)))

-- w times C(u, c); with no tile w itself
unfoldable pub factor : Float → ℕ → ℕ → Float
factor w u zero = w
factor w u (suc c) = mul binary64 w (running u (suc c))

-- the same in whole numbers
abbrev pub product : ℕ → ℕ → ℕ → ℕ
product w u c = w * binomial u c

-- the rank with c tiles more of letter t, a tile at a time by the table
unfoldable pub climb : ℕ → List ℕ → ℕ → ℕ → ℕ → ℕ
climb n table t zero i = i
climb n table t (suc c) i = up n table t (climb n table t c i)

-- the racks with rem tiles more of the letters from t on, of which the pool has so many: the ways of each and its rank, where w are
-- the ways so far and i is the rank so far
module _ {W : Type 0} (by : W → ℕ → ℕ → W) (n : ℕ) (table : List ℕ) where
  unfoldable pub met : ℕ → List ℕ → ℕ → W → ℕ → List (W × ℕ)
  met t [] zero w i = (w, i) ∷ []
  met t [] (suc rem) w i = []
  met t (u ∷ us) rem w i = concat_map (λ c. met (suc t) us (rem - c) (by w u c) (climb n table t c i)) (upto (suc (min u rem)))

  -- those with fewer than k tiles of letter t
  abbrev pub met_to : ℕ → ℕ → List ℕ → ℕ → W → ℕ → ℕ → List (W × ℕ)
  met_to t u us rem w i k = concat_map (λ c. met (suc t) us (rem - c) (by w u c) (climb n table t c i)) (upto k)

  pub met_cons : (t u : ℕ) (us : List ℕ) (rem : ℕ) (w : W) (i : ℕ) → met t (u ∷ us) rem w i ≡ met_to t u us rem w i (suc (min u rem))
  unfolding met
  met_cons t u us rem w i = refl

  pub met_end : (t : ℕ) (w : W) (i : ℕ) → met t [] zero w i ≡ (w, i) ∷ []
  unfolding met
  met_end t w i = refl

  pub met_short : (t rem : ℕ) (w : W) (i : ℕ) → met t [] (suc rem) w i ≡ []
  unfolding met
  met_short t rem w i = refl

  pub met_to_zero : (t u : ℕ) (us : List ℕ) (rem : ℕ) (w : W) (i : ℕ) → met_to t u us rem w i 0 ≡ []
  unfolding concat_map
  met_to_zero t u us rem w i = rw upto_zero

  -- the turn of k tiles comes after those of fewer
  pub met_to_suc : (t u : ℕ) (us : List ℕ) (rem : ℕ) (w : W) (i k : ℕ)
      → met_to t u us rem w i (suc k) ≡ met_to t u us rem w i k ++ met (suc t) us (rem - k) (by w u k) (climb n table t k i)
  met_to_suc t u us rem w i k = rw (upto_suc, concat_map_append, concat_map_one)

  -- where the letters lack the tiles, nothing is met
  concat_none : (f : ℕ → List (W × ℕ)) (k : ℕ) → ((c : ℕ) → c < k → f c ≡ []) → concat_map f (upto k) ≡ []
  unfolding concat_map
  concat_none f zero h = rw upto_zero
  concat_none f (suc k) h = rw (upto_suc, concat_map_append, concat_map_one, concat_none f k (λ c l. h c (omega arith)), h k (omega arith))

  pub met_lacking : (t : ℕ) (pool : List ℕ) (rem : ℕ) (w : W) (i : ℕ) → total pool < rem → met t pool rem w i ≡ []
  unfolding met
  met_lacking t [] zero w i h = absurd (omega arith)
  met_lacking t [] (suc rem) w i h = refl
  met_lacking t (u ∷ us) rem w i h =
      concat_none (λ c. met (suc t) us (rem - c) (by w u c) (climb n table t c i)) (suc (min u rem)) (λ c l. met_lacking (suc t) us (rem - c) (by w u c) (climb n table t c i) (omega (arith, total_cons u us)))

  -- where no tile is to come, one rack is met
  module _ (by-none : (w : W) (u : ℕ) → by w u 0 ≡ w) where
    pub met_none : (t : ℕ) (pool : List ℕ) (w : W) (i : ℕ) → met t pool 0 w i ≡ (w, i) ∷ []
    unfolding climb
    met_none t [] w i = met_end t w i
    met_none t (u ∷ us) w i =
        let e : suc (min u 0) ≡ 1 = omega arith in
        met_cons t u us 0 w i ∙ ap (met_to t u us 0 w i) e ∙ met_to_suc t u us 0 w i 0 ∙ rw (met_to_zero t u us 0 w i, by-none w u) (met_none (suc t) us w i)

pub factor_none : (w : Float) (u : ℕ) → factor w u 0 ≡ w
unfolding factor
factor_none w u = refl

-- with one tile to come: the rack with a tile of letter t, where there are u of it
unfoldable pub met_tile : ℕ → List ℕ → ℕ → ℕ → Float → ℕ → List (Float × ℕ)
met_tile n table t zero w i = []
met_tile n table t (suc u) w i = (factor w (suc u) 1, up n table t i) ∷ []

-- the letters after t come first
pub met_tile_lem : (n : ℕ) (table : List ℕ) (t u : ℕ) (us : List ℕ) (w : Float) (i : ℕ) → met factor n table t (u ∷ us) 1 w i ≡ met factor n table (suc t) us 1 w i ++ met_tile n table t u w i
unfolding met_tile climb
met_tile_lem n table t zero us w i =
    let e : suc (min 0 1) ≡ 1 = omega arith in
    met_cons factor n table t 0 us 1 w i ∙ ap (met_to factor n table t 0 us 1 w i) e ∙ met_to_suc factor n table t 0 us 1 w i 0
    ∙ rw (met_to_zero factor n table t 0 us 1 w i, factor_none w 0) (sym (append-nil (met factor n table (suc t) us 1 w i)))
met_tile_lem n table t (suc u) us w i =
    let e : suc (min (suc u) 1) ≡ 2 = omega arith in
    let first : met_to factor n table t (suc u) us 1 w i 1 ≡ met factor n table (suc t) us 1 w i = met_to_suc factor n table t (suc u) us 1 w i 0 ∙ rw (met_to_zero factor n table t (suc u) us 1 w i, factor_none w (suc u)) in
    met_cons factor n table t (suc u) us 1 w i ∙ ap (met_to factor n table t (suc u) us 1 w i) e ∙ met_to_suc factor n table t (suc u) us 1 w i 1
    ∙ ap₂ ◌++◌ first (met_none factor n table factor_none (suc t) us (factor w (suc u) 1) (up n table t i))

pub product_none : (w u : ℕ) → product w u 0 ≡ w
product_none w u = rw binomial_zero (mul-one w)

-- ---- what is made of them

abbrev pub totals : Float → Float → ℕ → Totals
totals num den most = record { num = num; den = den; most = most }

-- one rack more: its ways, its best that often, and the size of its best
unfoldable pub gain : List ℤ → Float × ℕ → Totals → Totals
gain full v a =
    totals (add binary64 a.num (mul binary64 v.0 (whole (at_ℤ full v.1)))) (add binary64 a.den v.0) (max a.most (nat_abs (at_ℤ full v.1)))

unfoldable pub gains : List ℤ → List (Float × ℕ) → Totals → Totals
gains full [] a = a
gains full (v ∷ vs) a = gains full vs (gain full v a)

-- the totals b are those a with these racks more, and each of their bests is an i32
pub record Gathered (full : List ℤ) (vs : List (Float × ℕ)) (a b : Totals) : Type 0 where
  pub is : b ≡ gains full vs a
  pub ranged : Every (λ v. mag (at_ℤ full v.1) < 2 ^ 31) vs

pub gains_append : (full : List ℤ) (xs ys : List (Float × ℕ)) (a : Totals) → gains full (xs ++ ys) a ≡ gains full ys (gains full xs a)
unfolding gains
gains_append full [] ys a = refl
gains_append full (x ∷ xs) ys a = gains_append full xs ys (gain full x a)

module _ {full : List ℤ} where
  pub gathered_none : (a : Totals) → Gathered full [] a a
  unfolding gains
  gathered_none a = record { is = refl; ranged = every_nil }

  pub gathered_one : (v : Float × ℕ) {a b : Totals} → b ≡ gain full v a → mag (at_ℤ full v.1) < 2 ^ 31 → Gathered full (v ∷ []) a b
  unfolding gains
  gathered_one v e h = record { is = e; ranged = every_cons h every_nil }

  pub gathered_append : {xs ys : List (Float × ℕ)} {a b c : Totals} → Gathered full xs a b → Gathered full ys b c → Gathered full (xs ++ ys) a c
  gathered_append {xs} {ys} {a} {b} {c} p q = record {
    is = q.is ∙ ap (gains full ys) p.is ∙ sym (gains_append full xs ys a);
    ranged = every_append p.ranged q.ranged;
  }

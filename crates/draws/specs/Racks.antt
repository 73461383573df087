-- A sum over the racks that the walk meets is the sum over the draws, whatever is summed up. Assumes nothing.
use Rattle.std.specs.Prelude.{◌≡◌}
use Rattle.std.proofs.Math.Path.{refl, sym, ap}
use Rattle.std.proofs.Common.{◌∙◌, add-zero, add-suc, mul-zero, arith}
use mathlib.Core.List.{List, [], ◌∷◌, ◌++◌, append_assoc}
use Prim.Native.Nat.{ℕ, zero, suc, ◌+◌, ◌-◌, ◌*◌, ◌≤◌, ◌<◌, min}
use Rattle.std.proofs.Math.Nat.{suc_inj}
use Rattle.std.proofs.Math.ListN.{length, length-append}
use Rattle.laws.specs.Lists.{upto}
use Rattle.laws.specs.Every.{every_weaken}
use Rattle.laws.specs.Sums.{Additive, sum_in, plus_none, times_one, times_none, mul_times, sum_cong, sum_cong_on, sum_times, sum_concat_map, sum_upto_suc}
use Rattle.binomials.specs.Binomial.{binomial, binomial_above}
use Rattle.lattice.specs.Tally.{total, tallies, rank_of, add_tile, add_tile_is, plus, total_cons}
use Rattle.lattice.specs.Tallies.{tallies_empty, tallies_too_many}
use Rattle.lattice.specs.Step.{total_append}
use Rattle.lattice.specs.Leaves.{AddTable}
use Rattle.lattice.specs.Tables.{up}
use Rattle.hands.specs.Hands.{hands, rack_of, ways, sum_tallies, tallies_every}
use Rattle.hands.proofs.Hands.{sum_hands}
use Rattle.draws.specs.Walk.{climb, product, met, met_cons, met_end, met_short}

-- the rank with the tiles of cs more, of the letters from t on
unfoldable pub climbs : ℕ → List ℕ → ℕ → ℕ → List ℕ → ℕ
climbs n table t i [] = i
climbs n table t i (c ∷ cs) = climbs n table (suc t) (climb n table t c i) cs

-- ---- by racks

-- terms that are none add nothing
module _ (𝓜 : Additive) where
  open 𝓜 use {Carrier, none, plus, times}

  sum_past : (a d : ℕ) (g : ℕ → Carrier) → ((c : ℕ) → a ≤ c → c < a + d → g c ≡ none) → sum_in 𝓜 (upto (a + d)) g ≡ sum_in 𝓜 (upto a) g
  sum_past a zero g h = ap (λ (k : ℕ). sum_in 𝓜 (upto k) g) (add-zero a)
  sum_past a (suc d) g h =
      ap (λ (k : ℕ). sum_in 𝓜 (upto k) g) (add-suc a d)
      ∙ sum_upto_suc 𝓜 (a + d) g
      ∙ ap (plus (sum_in 𝓜 (upto (a + d)) g)) (h (a + d) (omega arith) (omega arith))
      ∙ plus_none 𝓜 _
      ∙ sum_past a d g (λ c l k. h c l (omega arith))

module _ (𝓜 : Additive) (n : ℕ) (table : List ℕ) (f : ℕ → 𝓜.Carrier) where
  open 𝓜 use {Carrier, none, plus, times, zero_times}

  -- a rack that is met, in all its ways
  abbrev pub part : ℕ × ℕ → Carrier
  part v = times v.0 (f v.1)

  abbrev by_racks : ℕ → List ℕ → ℕ → ℕ → Carrier
  by_racks t pool rem i = sum_in 𝓜 (tallies (length pool) rem) (λ cs. times (ways pool cs) (f (climbs n table t i cs)))

  sum_met : (t : ℕ) (pool : List ℕ) (rem k i : ℕ) → sum_in 𝓜 (met product n table t pool rem k i) part ≡ times k (by_racks t pool rem i)
  unfolding climbs
  sum_met t [] zero k i =
      ap (λ l. sum_in 𝓜 l part) (met_end product n table t k i)
      ∙ plus_none 𝓜 _
      ∙ ap (times k) (sym (ap (λ l. sum_in 𝓜 l (λ cs. times (ways [] cs) (f (climbs n table t i cs)))) tallies_empty ∙ plus_none 𝓜 _ ∙ times_one 𝓜 (f i)))
  sum_met t [] (suc rem) k i =
      ap (λ l. sum_in 𝓜 l part) (met_short product n table t rem k i)
      ∙ sym (times_none 𝓜 k)
      ∙ ap (times k) (sym (ap (λ l. sum_in 𝓜 l (λ cs. times (ways [] cs) (f (climbs n table t i cs)))) (tallies_too_many rem)))
  sum_met t (u ∷ us) rem k i =
      ap (λ l. sum_in 𝓜 l part) (met_cons product n table t u us rem k i)
      ∙ sum_concat_map 𝓜 _ (upto (suc (min u rem))) part
      ∙ sum_cong 𝓜 (upto (suc (min u rem))) (λ c. sum_met (suc t) us (rem - c) (k * binomial u c) (climb n table t c i))
      ∙ sym (ap (λ (m : ℕ). sum_in 𝓜 (upto m) (λ c. times (k * binomial u c) (inner c))) all ∙ sum_past 𝓜 (suc (min u rem)) (rem - min u rem) _ past)
      ∙ sum_cong 𝓜 (upto (suc rem)) (λ c. mul_times 𝓜 k (binomial u c) (inner c))
      ∙ sum_times 𝓜 k (upto (suc rem)) (λ c. times (binomial u c) (inner c))
      ∙ ap (times k) (sym (sum_tallies 𝓜 (length us) rem _ ∙ sum_cong 𝓜 (upto (suc rem)) one))
    where
      inner : ℕ → Carrier
      inner c = by_racks (suc t) us (rem - c) (climb n table t c i)

      all : suc rem ≡ suc (min u rem) + (rem - min u rem)
      all = omega arith

      past : (c : ℕ) → suc (min u rem) ≤ c → c < suc (min u rem) + (rem - min u rem) → times (k * binomial u c) (inner c) ≡ none
      past c h l = ap (λ (b : ℕ). times (k * b) (inner c)) (binomial_above u c (omega arith)) ∙ ap (λ (b : ℕ). times b (inner c)) (mul-zero k) ∙ zero_times (inner c)

      one : (c : ℕ) → sum_in 𝓜 (tallies (length us) (rem - c)) (λ cs. times (binomial u c * ways us cs) (f (climbs n table (suc t) (climb n table t c i) cs))) ≡ times (binomial u c) (inner c)
      one c = sum_cong 𝓜 (tallies (length us) (rem - c)) (λ cs. mul_times 𝓜 (binomial u c) (ways us cs) _) ∙ sum_times 𝓜 (binomial u c) (tallies (length us) (rem - c)) _

-- ---- the ranks

add_there : (pre : List ℕ) (y : ℕ) (ys : List ℕ) → add_tile (pre ++ (y ∷ ys)) (length pre) ≡ pre ++ (suc y ∷ ys)
add_there [] y ys = add_tile_is (y ∷ ys) 0
add_there (x ∷ pre) y ys =
    add_tile_is (x ∷ (pre ++ (y ∷ ys))) (suc (length pre)) ∙ ap {B = List ℕ} (λ l. x ∷ l) (sym (add_tile_is (pre ++ (y ∷ ys)) (length pre)) ∙ add_there pre y ys)

module _ (n r : ℕ) (table : List ℕ) (right : AddTable n r table) where
  climb_rank : (pre : List ℕ) (y : ℕ) (ys : List ℕ) (c : ℕ) → length (pre ++ (y ∷ ys)) ≡ n → total (pre ++ (y ∷ ys)) + c ≤ r
      → climb n table (length pre) c (rank_of n (pre ++ (y ∷ ys))) ≡ rank_of n (pre ++ ((y + c) ∷ ys))
  unfolding climb
  climb_rank pre y ys zero l h = ap (λ (k : ℕ). rank_of n (pre ++ (k ∷ ys))) (sym (add-zero y))
  climb_rank pre y ys (suc c) l h =
      let x : List ℕ = pre ++ ((y + c) ∷ ys) in
      let lx : length x ≡ n = omega (arith, l, length-append pre (y ∷ ys), length-append pre ((y + c) ∷ ys)) in
      let few : total x < r = omega (arith, total_append pre (y ∷ ys), total_append pre ((y + c) ∷ ys), total_cons y ys, total_cons (y + c) ys) in
      let there : length pre < n = omega (arith, l, length-append pre (y ∷ ys)) in
      ap (up n table (length pre)) (climb_rank pre y ys c l (omega arith))
      ∙ right.entry x (length pre) lx few there
      ∙ ap (rank_of n) (add_there pre (y + c) ys ∙ ap (λ (k : ℕ). pre ++ (k ∷ ys)) (sym (add-suc y c)))

  climbs_rank : (pre ys cs : List ℕ) → length ys ≡ length cs → length (pre ++ ys) ≡ n → total (pre ++ ys) + total cs ≤ r
      → climbs n table (length pre) (rank_of n (pre ++ ys)) cs ≡ rank_of n (pre ++ plus ys cs)
  unfolding climbs plus
  climbs_rank pre [] [] e l h = refl
  climbs_rank pre [] (c ∷ cs) e l h = absurd (let q : 0 ≡ suc (length cs) = e in omega arith)
  climbs_rank pre (y ∷ ys) [] e l h = absurd (let q : suc (length ys) ≡ 0 = e in omega arith)
  climbs_rank pre (y ∷ ys) (c ∷ cs) e l h =
      let at : List ℕ = pre ++ ((y + c) ∷ []) in
      let z : length at ≡ suc (length pre) = omega (arith, length-append pre ((y + c) ∷ [])) in
      let join : (zs : List ℕ) → at ++ zs ≡ pre ++ ((y + c) ∷ zs) = λ zs. append_assoc pre ((y + c) ∷ []) zs in
      let lz : length (at ++ ys) ≡ n = omega (arith, l, ap length (join ys), length-append pre (y ∷ ys), length-append pre ((y + c) ∷ ys)) in
      let hz : total (at ++ ys) + total cs ≤ r =
      omega (arith, ap total (join ys), total_append pre (y ∷ ys), total_append pre ((y + c) ∷ ys), total_cons y ys, total_cons (y + c) ys, total_cons c cs) in
      ap (λ (i : ℕ). climbs n table (suc (length pre)) i cs) (climb_rank pre y ys c l (omega (arith, total_cons c cs)))
      ∙ ap (λ (x : List ℕ). climbs n table (suc (length pre)) (rank_of n x) cs) (sym (join ys))
      ∙ ap (λ (t : ℕ). climbs n table t (rank_of n (at ++ ys)) cs) (sym z)
      ∙ climbs_rank at ys cs (suc_inj e) lz hz
      ∙ ap (rank_of n) (join (plus ys cs))

  -- ---- by draws
  module _ (𝓜 : Additive) (f : ℕ → 𝓜.Carrier) where
    pub sum_draws : (leave pool : List ℕ) (d : ℕ) → length leave ≡ n → length pool ≡ n → total leave + d ≡ r
        → sum_in 𝓜 (met product n table 0 pool d 1 (rank_of n leave)) (part 𝓜 n table f) ≡ sum_in 𝓜 (hands pool d) (λ h. f (rank_of n (plus leave (rack_of n h))))
    sum_draws leave pool d l m e =
        sum_met 𝓜 n table f 0 pool d 1 (rank_of n leave)
        ∙ times_one 𝓜 _
        ∙ sum_cong_on 𝓜 (every_weaken (λ cs h. ap (λ (i : ℕ). 𝓜.times (ways pool cs) (f i)) (climbs_rank [] leave cs (l ∙ sym (h.0 ∙ m)) l (omega (arith, h.1)))) (tallies_every (length pool) d))
        ∙ sym (sum_hands 𝓜 pool d (λ cs. f (rank_of n (plus leave cs))))
        ∙ ap (λ (k : ℕ). sum_in 𝓜 (hands pool d) (λ h. f (rank_of n (plus leave (rack_of k h))))) m

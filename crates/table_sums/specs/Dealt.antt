-- The full racks' ways, from which the sums are made: the limit on the bests, and what the passes start from. Assumes nothing.
use Rattle.std.specs.Prelude.{◌≡◌, refl, ◌⊎◌, Bool, true, false, ltb, Float, ℤ, pos, nat_abs, ◌*ℤ◌, length, take, replicate}
use Rattle.std.proofs.Math.Path.{sym, ap}
use Rattle.std.proofs.Common.{ap₂, ◌∙◌, inl, inr, ltb→lt, lt→ltb, take-suc, le_trans, le_of_eq, one-mul, mul-one, mul-le-mul_left, mul-le-mul_right, eq-zero-or-pos, arith}
use Rattle.std.proofs.Math.Bool.{cond}
use Rattle.std.proofs.lemmas.Bool.{false≢true}
use mathlib.Core.List.{List, [], ◌∷◌, ◌++◌, map, Memᴰ}
use Prim.Native.Nat.{ℕ, zero, suc, ◌+◌, ◌^◌, ◌≤◌, ◌<◌, max}
use Rattle.std.specs.Float.{nan}
use Rattle.std.specs.Float.Ieee.{lt, of_bits, binary64, mul}
use Rattle.std.proofs.Math.IntN.{zero-*ℤ}
use Rattle.std.proofs.Math.ListN.{get_or}
use Rattle.std.proofs.Math.Seq.{take-length}
use Rattle.std.proofs.Math.Decide.{dec_lt}
use Rattle.std.proofs.Math.Nat.{le-max_left, le-max_right, max-zero, zero-max}
use Rattle.laws.specs.Integer.{at_ℤ}
use Rattle.laws.specs.Lists.{map_append}
use Rattle.laws.specs.Sums.{integers, select}
use Rattle.laws.specs.Tests.{T→true, not_true, T-ext}
use Rattle.whole.specs.Whole.{whole}
use Rattle.whole.proofs.Steps.{above_zero, mul_whole_above}
use Rattle.binomials.specs.Binomial.{binomial}
use Rattle.lattice.specs.Tally.{total, tallies, start, rank_of, rank_is}
use Rattle.lattice.specs.Tallies.{Fits, tally_at_fits, within_at, tallies_all}
use Rattle.lattice.specs.Rank.{AtMost, rank_below, rank_from}
use Rattle.lattice.specs.Leaves.{leave_rank}
use Rattle.lattice.specs.Lattice.{length_lattice_start}
use Rattle.hands.specs.Hands.{holds, ways}
use Rattle.hands.proofs.Hands.{ways_le, ways_drawable, drawable_ways, ways_lacking}
use Rattle.hands.specs.Fold.{partial, partial_start_full, partial_start_leave, partial_pos}
use Rattle.hands.proofs.Fold.{partial_count_le, partial_sum_le}
use Rattle.sums.specs.Weight.{largest, Clear}
use Rattle.table_sums.specs.Table.{best_at, most_best, Limit}
use Rattle.table_sums.specs.Racks.{larger_at, most_from, Valued}
use Rattle.table_sums.specs.Passes.{Partly, Folding}

-- xs has each full rack's ways, and +0.0 below
pub record Ways (pool : List ℕ) (r : ℕ) (xs : List Float) : Type 0 where
  pub racks : (R : List ℕ) → Fits (length pool) r R → get_or xs (rank_of (length pool) R) nan ≡ whole (pos (ways pool R))
  pub leaves : (m : List ℕ) → length m ≡ length pool → total m < r → get_or xs (rank_of (length pool) m) nan ≡ whole (pos 0)

-- ---- the largest best

largest_none : (k : ℕ) → max k (largest []) ≡ k
unfolding largest
largest_none k = max-zero k

largest_append : (xs ys : List ℤ) → largest (xs ++ ys) ≡ max (largest xs) (largest ys)
unfolding largest
largest_append [] ys = sym (zero-max (largest ys))
largest_append (x ∷ xs) ys = let e = largest_append xs ys in omega arith

largest_one : (x : ℤ) → largest (x ∷ []) ≡ nat_abs x
unfolding largest
largest_one x = max-zero (nat_abs x)

largest_member : {A : Type 0} (f : A → ℤ) (p : A → Bool) {x : A} {xs : List A} → Memᴰ x xs → p x ≡ true → nat_abs (f x) ≤ largest (map f (select p xs))
unfolding largest
largest_member f p {x} (Memᴰ.head {x = y} {xs = ys} e) h = by (p y) (ap p (sym e) ∙ h)
  where
    by : (b : Bool) → b ≡ true → nat_abs (f x) ≤ largest (map f (cond b (y ∷ select p ys) (select p ys)))
    by true q = rw e (le-max_left (nat_abs (f y)) _)
    by false q = absurd (false≢true q)
largest_member f p {x} (Memᴰ.tail {x = y} {xs = ys} m) h = by (p y) (largest_member f p m h)
  where
    by : (b : Bool) → nat_abs (f x) ≤ largest (map f (select p ys)) → nat_abs (f x) ≤ largest (map f (cond b (y ∷ select p ys) (select p ys)))
    by true q = le_trans q (le-max_right (nat_abs (f y)) _)
    by false q = q

-- M bounds each best that counts
pub best_within : (n r : ℕ) (best : List ℤ) (pool R : List ℕ) → Fits n r R → holds pool R ≡ true → nat_abs (best_at n best R) ≤ most_best n r best pool
best_within n r best pool R f h = le_trans (largest_member (best_at n best) (holds pool) (tallies_all n r R f) h) (le-max_right 16 _)

select_append : {A : Type 0} (p : A → Bool) (xs ys : List A) → select p (xs ++ ys) ≡ select p xs ++ select p ys
select_append p [] ys = refl
select_append {A} p (x ∷ xs) ys = by (p x) (select_append p xs ys)
  where
    by : (b : Bool) → select p (xs ++ ys) ≡ select p xs ++ select p ys → cond b (x ∷ select p (xs ++ ys)) (select p (xs ++ ys)) ≡ cond b (x ∷ select p xs) (select p xs) ++ select p ys
    by true e = ap {B = List A} (λ l. x ∷ l) e
    by false e = e

module _ {A : Type 0} (f : A → ℤ) (p : A → Bool) where
  abbrev largest_of : List A → ℕ
  largest_of xs = largest (map f (select p xs))

  -- one element more at the end
  most_more : (xs : List A) (x : A) (m : ℕ) → max m (largest_of (xs ++ (x ∷ []))) ≡ cond (p x) (max (max m (largest_of xs)) (nat_abs (f x))) (max m (largest_of xs))
  most_more xs x m = ap (λ (l : List A). max m (largest (map f l))) (select_append p xs (x ∷ [])) ∙ by (p x)
    where
      by : (b : Bool) → max m (largest (map f (select p xs ++ cond b (x ∷ []) []))) ≡ cond b (max (max m (largest_of xs)) (nat_abs (f x))) (max m (largest_of xs))
      by true =
          let e = ap largest (map_append f (select p xs) (x ∷ [])) ∙ largest_append (map f (select p xs)) (f x ∷ []) ∙ ap (max (largest_of xs)) (largest_one (f x)) in
          ap (max m) e ∙ omega arith
      by false = ap (max m) (ap largest (map_append f (select p xs) []) ∙ largest_append (map f (select p xs)) [] ∙ largest_none (largest_of xs))

-- ---- the racks by rank

module _ (pool : List ℕ) (r : ℕ) where
  abbrev n : ℕ
  n = length pool

  -- the j-th full rack
  rack_at : (j : ℕ) → j < length (tallies n r) → rank_of n (get_or (tallies n r) j []) ≡ start n r + j
  rack_at j h =
      let f = tally_at_fits n r j h in
      rank_is n (get_or (tallies n r) j []) ∙ ap₂ (λ (s w : ℕ). start n s + w) f.tiles (within_at n r j h)

  module _ (best : List ℤ) (xs : List Float) (w : Ways pool r xs) (small : binomial (total pool) r ≤ 2 ^ 53) where
    pub ways_small : (R : List ℕ) → Fits n r R → ways pool R ≤ 2 ^ 53
    ways_small R f = le_trans (ways_le pool r R (tallies_all n r R f)) small

    -- a rack has a way just where it can be drawn
    pub way_there : (R : List ℕ) → Fits n r R → lt (of_bits binary64 0) (get_or xs (rank_of n R) nan) ≡ holds pool R
    way_there R f =
        ap (lt (of_bits binary64 0)) (w.racks R f) ∙ above_zero (ways pool R) (ways_small R f)
        ∙ T-ext (ltb 0 (ways pool R)) (holds pool R) (λ h. ways_drawable pool R f.letters (ltb→lt 0 (ways pool R) h)) (λ h. lt→ltb 0 (ways pool R) (drawable_ways pool R h))

    -- the loop's largest, rack after rack
    most_upto : (k : ℕ) → k ≤ length (tallies n r) → most_from (start n r) best xs k ≡ max 16 (largest_of (best_at n best) (holds pool) (take k (tallies n r)))
    unfolding larger_at
    most_upto zero h = sym (largest_none 16)
    most_upto (suc k) h =
        let R = get_or (tallies n r) k [] in
        let f : Fits n r R = tally_at_fits n r k h in
        let e : start n r + k ≡ rank_of n R = sym (rack_at k h) in
        let M : ℕ = max 16 (largest_of (best_at n best) (holds pool) (take k (tallies n r))) in
        ap (λ (m : ℕ). cond (lt (of_bits binary64 0) (get_or xs (start n r + k) nan)) (max m (nat_abs (at_ℤ best (start n r + k)))) m) (most_upto k (omega arith))
        ∙ ap (λ (j : ℕ). cond (lt (of_bits binary64 0) (get_or xs j nan)) (max M (nat_abs (at_ℤ best j))) M) e
        ∙ ap (λ (b : Bool). cond b (max M (nat_abs (best_at n best R))) M) (way_there R f)
        ∙ sym (most_more (best_at n best) (holds pool) (take k (tallies n r)) R 16)
        ∙ ap (λ (l : List (List ℕ)). max 16 (largest_of (best_at n best) (holds pool) l)) (sym (take-suc (tallies n r) k [] h))

    pub most_is : (k : ℕ) → k ≡ length (tallies n r) → most_from (start n r) best xs k ≡ most_best n r best pool
    most_is k e =
        most_upto k (le_of_eq e)
        ∙ ap (λ (l : List (List ℕ)). max 16 (largest_of (best_at n best) (holds pool) l)) (ap (λ (j : ℕ). take j (tallies n r)) e ∙ take-length (tallies n r))

  -- ---- what the passes start from

  start_zero_sum : (g : List ℕ → ℤ) (m : List ℕ) → length m ≡ n → total m < r → pos 0 ≡ partial n r g (replicate n false) m
  start_zero_sum g m l h = sym (partial_start_leave integers n r g m l (λ e. omega arith))

  start_full_sum : (g : List ℕ → ℤ) (m : List ℕ) → length m ≡ n → total m ≡ r → g m ≡ partial n r g (replicate n false) m
  start_full_sum g m l h = sym (partial_start_full integers n r g m l h)

  -- a table with g at the full racks and +0.0 below
  begin_of : (g : List ℕ → ℤ) (xs : List Float) → ((R : List ℕ) → Fits n r R → get_or xs (rank_of n R) nan ≡ whole (g R)) → ((m : List ℕ) → length m ≡ n → total m < r → get_or xs (rank_of n m) nan ≡ whole (pos 0))
      → Partly n r g (replicate n false) xs
  begin_of g xs full less = record { at = λ m l. by m l (dec_lt (total m) r) }
    where
      by : (m : List ℕ) → AtMost n r m → Dec (total m < r) → get_or xs (rank_of n m) nan ≡ whole (partial n r g (replicate n false) m)
      by m l (yes h) = less m l.letters h ∙ ap whole (start_zero_sum g m l.letters h)
      by m l (no h) =
          let e : total m ≡ r = omega (arith, l.tiles) in
          full m (record { letters = l.letters; tiles = e }) ∙ ap whole (start_full_sum g m l.letters e)

  module _ {xs : List Float} (w : Ways pool r xs) where
    pub count_folding : binomial (total pool) r ≤ 2 ^ 53 → Folding pool r (λ (t : List ℕ). pos (ways pool t)) xs
    count_folding small = record {
      begin = begin_of (λ (t : List ℕ). pos (ways pool t)) xs w.racks w.leaves;
      small = λ taken m. rw (← partial_pos n r (ways pool) taken m) (le_trans (partial_count_le pool r taken m) small);
      lacking = λ R i l h e k. ap pos (ways_lacking pool R i l h e k);
    }

    module _ (best : List ℤ) (limit : Limit n r best pool) where
      abbrev M : ℕ
      M = most_best n r best pool

      least : 16 ≤ M
      least = le-max_left 16 _

      pub limit_weight : binomial (total pool) r ≤ 2 ^ 53
      limit_weight =
          let one : 1 ≤ M = le_trans (omega arith) least in
          le_trans (le_of_eq (sym (mul-one (binomial (total pool) r)))) (le_trans (mul-le-mul_left (binomial (total pool) r) one) limit.within)

      -- the ways times the best of a rack
      abbrev value : List ℕ → ℤ
      value t = pos (ways pool t) *ℤ best_at n best t

      module _ (num num' : List Float) (size : length num ≡ start n (suc r)) (clear : Clear num) (v : Valued (start n r) best xs (length best) num num') (bests : length best ≡ start n (suc r)) where
        rank_in : (m : List ℕ) → AtMost n r m → rank_of n m < length num
        rank_in m l = omega (arith, rank_below n r m l, length_lattice_start n r)

        value_full : (R : List ℕ) → Fits n r R → get_or num' (rank_of n R) nan ≡ whole (value R)
        value_full R f = v.inside (rank_of n R) low (omega (arith, rank_in R most, bests)) ∙ by (eq-zero-or-pos (ways pool R))
          where
            most : AtMost n r R
            most = record { letters = f.letters; tiles = le_of_eq f.tiles }

            low : start n r ≤ rank_of n R
            low = le_trans (le_of_eq (ap (start n) (sym f.tiles))) (rank_from n R)

            test : lt (of_bits binary64 0) (get_or xs (rank_of n R) nan) ≡ holds pool R
            test = way_there best xs w limit_weight R f

            -- no way
            none : ways pool R ≡ 0 → holds pool R ≡ false
            none z = not_true (holds pool R) (λ h. absurd (omega (arith, drawable_ways pool R h)))

            by : (ways pool R ≡ 0) ⊎ (0 < ways pool R) → cond (lt (of_bits binary64 0) (get_or xs (rank_of n R) nan)) (mul binary64 (get_or xs (rank_of n R) nan) (whole (best_at n best R))) (get_or num (rank_of n R) nan) ≡ whole (value R)
            by (inl z) =
                ap (λ (b : Bool). cond b (mul binary64 (get_or xs (rank_of n R) nan) (whole (best_at n best R))) (get_or num (rank_of n R) nan)) (test ∙ none z)
                ∙ clear (rank_of n R) (rank_in R most) ∙ ap whole (sym (ap (λ (k : ℕ). pos k *ℤ best_at n best R) z ∙ zero-*ℤ (best_at n best R)))
            by (inr h) =
                let there : holds pool R ≡ true = T→true (holds pool R) (ways_drawable pool R f.letters h) in
                let one : 1 ≤ binomial (total pool) r = le_trans h (ways_le pool r R (tallies_all n r R f)) in
                let M-small : M ≤ 2 ^ 53 = le_trans (le_of_eq (sym (one-mul M))) (le_trans (mul-le-mul_right M one) limit.within) in
                ap (λ (b : Bool). cond b (mul binary64 (get_or xs (rank_of n R) nan) (whole (best_at n best R))) (get_or num (rank_of n R) nan)) (test ∙ there)
                ∙ ap (λ (x : Float). mul binary64 x (whole (best_at n best R))) (w.racks R f)
                ∙ mul_whole_above (ways pool R) (best_at n best R) h (ways_small best xs w limit_weight R f) (le_trans (best_within n r best pool R f there) M-small)

        value_less : (m : List ℕ) → length m ≡ n → total m < r → get_or num' (rank_of n m) nan ≡ whole (pos 0)
        value_less m l h =
            let k : AtMost n r m = record { letters = l; tiles = omega arith } in
            v.outside (rank_of n m) (inl (leave_rank n r m l h)) ∙ clear (rank_of n m) (rank_in m k)

        pub sum_folding : Folding pool r value num'
        sum_folding = record {
          begin = begin_of value num' value_full value_less;
          small = λ taken m. le_trans (partial_sum_le pool r (best_at n best) M (λ t a b p. best_within n r best pool t (record { letters = a; tiles = b }) (T→true (holds pool t) (ways_drawable pool t a p))) taken m) limit.within;
          lacking = λ R i l h e k. ap (λ (w : ℕ). pos w *ℤ best_at n best R) (ways_lacking pool R i l h e k) ∙ zero-*ℤ (best_at n best R);
        }

-- The totals of the walk are those of the draws, so the answer is the mean over the draws. Assumes nothing.
use Rattle.std.proofs.Math.Path.{◌≡◌, refl, sym, ap}
use Rattle.std.proofs.Common.{◌∙◌, add_comm, one-mul, mul-one, zero-add, le_of_eq, mul-le-mul_left}
use Rattle.std.specs.Prelude.{List, [], ◌∷◌, map, ℤ, pos, nat_abs, ◌*ℤ◌, Float, length, drop}
use Prim.Native.Nat.{ℕ, zero, suc, ◌+◌, ◌*◌, ◌^◌, ◌≤◌, ◌<◌, max}
use Rattle.std.proofs.Math.Nat.{le_trans, le-max_left, le-max_right}
use native.Mathlib.Omega.{arith}
use Rattle.std.proofs.Math.IntN.{+ℤ_idl}
use Rattle.std.specs.Int.Signed.{mag}
use Rattle.laws.specs.Integer.{at_ℤ, nat_abs_mul}
use Rattle.laws.specs.Every.{Every, every_nil, every_cons, every_weaken, every_both, every_map}
use Rattle.laws.specs.Sums.{naturals, integers, sum_over, sum_in, sum_map, sum_cong_on, length_sum, sum_bound}
use Rattle.whole.specs.Whole.{whole}
use Rattle.whole.specs.Mean.{unplayable, mean, Ratio}
use Rattle.whole.proofs.Means.{mean_in_range}
use Rattle.binomials.specs.Binomial.{binomial}
use Rattle.lattice.specs.Tally.{total, lattice, tally_at, start, rank_of, start_suc}
use Rattle.lattice.specs.Lattice.{length_lattice}
use Rattle.lattice.specs.Rank.{rank_at, at_fits}
use Rattle.lattice.specs.Served.{facts}
use Rattle.hands.specs.Hands.{hands, hands_count}
use Rattle.draws.specs.declared.walk.Totals.{Totals}
use Rattle.std.specs.Prelude.{Ok, Err, Some, None}
use Rattle.refusal.specs.Refusal.{code_of, code_some}
use Rattle.refusal.specs.declared.Refusal.{Refusal}
use Rattle.refusal.specs.declared.Refusal.TheVariants.{Weight}
use Rattle.draws.specs.Draws.{Drawn, rack_after, best_after, draw_count, draw_sum, draw_most, maxima, largest, if_any, Limit, Passed, DrawNumber, given, draw_mean, drawn, Valued}
use Rattle.draws.specs.Draws.DrawNumber.{limit, accepted}
use Rattle.draws.specs.Walk.{factor, product, met, totals, gains, Gathered}
use Rattle.draws.specs.Walking.{Walking}
use Rattle.draws.specs.Racks.{part, sum_draws}
use Rattle.draws.specs.Exact.{as_float, rank, met_exact, met_ways, met_ranks, gains_most, ways_of, bests_of, bests_spread, Sized, gains_exact}

-- ---- lists
every_of_map : {A B : Type 0} {P : B → Type 0} (h : A → B) (xs : List A) → Every P (map h xs) → Every (λ x. P (h x)) xs
every_of_map h [] e = every_nil
every_of_map h (x ∷ xs) (every_cons p e) = every_cons p (every_of_map h xs e)

every_largest : {A : Type 0} (f : A → ℕ) (xs : List A) → Every (λ x. f x ≤ largest xs f) xs
every_largest f [] = every_nil
every_largest f (x ∷ xs) =
    every_cons (le-max_left (f x) (largest xs f)) (every_weaken (λ y h. le_trans h (le-max_right (f x) (largest xs f))) (every_largest f xs))

any_some : (k a : ℕ) → 0 < k → a ≡ if_any k a
any_some zero a h = absurd (omega arith)
any_some (suc k) a h = refl

-- ---- the call's own facts
module _ {n r : ℕ} {add : List ℕ} {full : List ℤ} {pool : List ℕ} {i d : ℕ} (p : Passed n r add full pool i d) where
  abbrev leave : List ℕ
  leave = tally_at n r i

  inside : i < length (lattice n r)
  inside = omega (arith, p.fills.below, length_lattice n r)

  leave_letters : length leave ≡ n
  leave_letters = (at_fits n r i inside).letters

  leave_rank : rank_of n leave ≡ i
  leave_rank = rank_at n r i inside

  pub few_drawn : d ≤ 15
  few_drawn = omega (arith, p.fills.tiles, (facts n r p.sizes).tiles)

  pub few_letters : length pool ≤ 64
  few_letters = omega (arith, p.lengths.in_pool, (facts n r p.sizes).letters)

  pub walking : {left : ℕ} → left ≡ total pool → Walking r add full pool 0 d left i
  walking e =
      record {
        right = rw p.lengths.in_pool p.table;
        bests = p.lengths.in_full ∙ ap (λ (k : ℕ). binomial k n) (add_comm n r) ∙ sym (start_suc n r) ∙ ap (λ (k : ℕ). start k (suc r)) (sym p.lengths.in_pool);
        letters = omega arith;
        tiles = e;
        short = rw p.lengths.in_pool (record { rack = leave; letters = leave_letters; tiles = p.fills.tiles; rank = leave_rank });
      }

  -- the racks that are met, with their ways
  abbrev vs : List (ℕ × ℕ)
  vs = met product n add 0 pool d 1 i

  module _ (one zero-num zero-den : Float) (one-is : one ≡ whole (pos 1)) (num_is : zero-num ≡ whole (pos 0)) (den_is : zero-den ≡ whole (pos 0)) {b : Totals}
      (g : Gathered full (met factor (length pool) add 0 (drop 0 pool) d one i) (totals zero-num zero-den 16) b) where
    -- the size of a best
    abbrev size_at : ℕ → ℕ
    size_at k = nat_abs (at_ℤ full k)

    largest_met : largest (map rank vs) size_at ≡ largest (hands pool d) (λ h. nat_abs (best_after n r full i h))
    unfolding best_after rack_after
    largest_met =
        sum_map maxima rank vs size_at
        ∙ sum_cong_on maxima (every_weaken (λ v h. any_some v.0 (size_at v.1) h) (met_ways n add 0 pool d 1 i (omega arith)))
        ∙ ap (λ (k : ℕ). sum_in maxima (met product n add 0 pool d 1 k) (part maxima n add size_at)) (sym leave_rank)
        ∙ sum_draws n r add p.table maxima size_at leave pool d leave_letters p.lengths.in_pool p.fills.tiles

    ranks : map rank (met factor (length pool) add 0 (drop 0 pool) d one i) ≡ map rank vs
    ranks = ap (λ (k : ℕ). map rank (met factor k add 0 pool d one i)) p.lengths.in_pool ∙ met_ranks factor product n add 0 pool d one 1 i

    most_met : b.most ≡ max 16 (largest (map rank vs) size_at)
    most_met =
        ap (λ (x : Totals). x.most) g.is
        ∙ gains_most full (met factor (length pool) add 0 (drop 0 pool) d one i) (totals zero-num zero-den 16)
        ∙ ap (λ (l : List ℕ). max 16 (largest l size_at)) ranks

    pub most_is : b.most ≡ draw_most n r full pool i d
    unfolding draw_most
    most_is = most_met ∙ ap (max 16) largest_met

    pub most_some : 16 ≤ b.most
    most_some = omega (arith, most_met)

    module _ (within : Limit n r full pool i d) where
      abbrev M : ℕ
      M = b.most

      some : 0 < M
      some = omega (arith, most_some)

      count_is : draw_count pool d ≡ binomial (total pool) d
      unfolding draw_count
      count_is = hands_count pool d

      ways_are : ways_of full vs ≡ draw_count pool d
      unfolding draw_count
      ways_are =
          ap (λ (k : ℕ). sum_over (met product n add 0 pool d 1 k) (λ v. v.0 * 1)) (sym leave_rank)
          ∙ sum_draws n r add p.table naturals (λ k. 1) leave pool d leave_letters p.lengths.in_pool p.fills.tiles
          ∙ sym (length_sum (hands pool d))

      bests_are : bests_of full vs ≡ draw_sum n r full pool i d
      unfolding draw_sum best_after rack_after
      bests_are =
          ap (λ (k : ℕ). bests_of full (met product n add 0 pool d 1 k)) (sym leave_rank)
          ∙ sum_draws n r add p.table integers (at_ℤ full) leave pool d leave_letters p.lengths.in_pool p.fills.tiles

      all_within : binomial (total pool) d * M ≤ 2 ^ 53
      all_within = rw most_is within.within

      pub all_small : binomial (total pool) d ≤ 2 ^ 53
      all_small = le_trans (le_of_eq (sym (mul-one (binomial (total pool) d)))) (le_trans (mul-le-mul_left (binomial (total pool) d) some) all_within)

      ranged : Every (λ v. mag (at_ℤ full v.1) < 2 ^ 31) vs
      ranged = every_of_map rank vs (rw ranks at (every_map {P = λ k. mag (at_ℤ full k) < 2 ^ 31} rank g.ranged))

      sized : Every (λ v. Sized full M some v.1) vs
      sized = every_weaken (λ v h. record { fits = h.0; small = le_trans h.1 below }) (every_both ranged (every_largest (λ v. size_at v.1) vs))
        where
          below : largest vs (λ v. size_at v.1) ≤ M
          below = omega (arith, most_met, sum_map maxima rank vs size_at)

      exact : met factor (length pool) add 0 (drop 0 pool) d one i ≡ map as_float vs
      exact =
          ap (λ (k : ℕ). met factor k add 0 pool d one i) p.lengths.in_pool
          ∙ ap (λ (w : Float). met factor n add 0 pool d w i) one-is
          ∙ met_exact n add 0 pool d 1 i few_drawn (omega arith) (rw one-mul (le_trans (mul-le-mul_left (binomial (total pool) d) most_some) all_within))

      ways_within : (0 + ways_of full vs) * M ≤ 2 ^ 53
      ways_within = rw (zero-add, ways_are, count_is) all_within

      sums : (b.num ≡ whole (draw_sum n r full pool i d)) × (b.den ≡ whole (pos (draw_count pool d)))
      sums =
          let a = totals zero-num zero-den 16 in
          let e : b ≡ gains full (map as_float vs) a = g.is ∙ ap (λ l. gains full l a) exact in
          let both = gains_exact full M some vs a (pos 0) 0 sized (omega arith) ways_within num_is den_is in
          (ap (λ (x : Totals). x.num) e ∙ both.0 ∙ ap whole (+ℤ_idl (bests_of full vs) ∙ bests_are), ap (λ (x : Totals). x.den) e ∙ both.1 ∙ ap (λ (k : ℕ). whole (pos k)) (zero-add (ways_of full vs) ∙ ways_are))

      sum_small : nat_abs (bests_of full vs) ≤ ways_of full vs * M
      sum_small =
          sum_bound (λ v. pos v.0 *ℤ at_ℤ full v.1) (λ v. v.0 * 1) M
          (every_weaken (λ v h. le_trans (le_of_eq (nat_abs_mul (pos v.0) (at_ℤ full v.1))) (rw mul-one (mul-le-mul_left v.0 h.small))) sized)

      -- what the code divides
      pub ratio : Ratio b.num b.den
      ratio = record {
        top = draw_sum n r full pool i d;
        bottom = draw_count pool d;
        num_is = sums.0;
        den_is = sums.1;
        top_small = rw (← bests_are) (le_trans sum_small (rw zero-add at ways_within));
        bottom_small = rw count_is all_small;
        in_range = mean_in_range (draw_sum n r full pool i d) (draw_count pool d) (rw (← bests_are, ← ways_are) (bests_spread full vs ranged));
      }

    -- ---- the answer

    pub answer_limit : (binomial (total pool) d * b.most ≤ 2 ^ 53 → ⊥) → Valued n r add full pool i d (Err Weight)
    answer_limit h = record {
      numbered = limit p.sizes p.lengths p.fills p.table (λ l. h (rw most_is l.within));
      valued = refl;
      is = λ e. absurd (let z : ◌≡◌ {A = ℕ} 9 0 = e in omega arith);
    }

    module _ (h : binomial (total pool) d * b.most ≤ 2 ^ 53) where
      within_limit : Limit n r full pool i d
      within_limit = record { within = rw most_is at h }

      weight_count : binomial (total pool) d ≡ draw_count pool d
      unfolding draw_count
      weight_count = sym (hands_count pool d)

      -- the answer is that of so many draws
      answered : {x : Drawn} → x ≡ drawn (draw_sum n r full pool i d) (draw_count pool d) → Valued n r add full pool i d x
      answered {x} e = rw e (go (draw_count pool d) refl)
        where
          yes_limit : DrawNumber n r add full pool i d 0
          yes_limit = accepted p.sizes p.lengths p.fills p.table within_limit

          go : (k : ℕ) → draw_count pool d ≡ k → Valued n r add full pool i d (drawn (draw_sum n r full pool i d) k)
          go zero e = record { numbered = yes_limit; valued = ap (mean (draw_sum n r full pool i d)) (sym e); is = λ z. ap (drawn (draw_sum n r full pool i d)) (sym e) }
          go (suc k) e = record { numbered = yes_limit; valued = ap (mean (draw_sum n r full pool i d)) (sym e); is = λ z. ap (drawn (draw_sum n r full pool i d)) (sym e) }

      pub answer_none : binomial (total pool) d ≡ 0 → Valued n r add full pool i d (Ok None)
      answer_none z = answered (sym (ap (drawn (draw_sum n r full pool i d)) (sym weight_count ∙ z)))

      pub code_ratio : Ratio b.num b.den
      code_ratio = ratio within_limit

      pub answer_mean : {v : ℤ} → (binomial (total pool) d ≡ 0 → ⊥) → v ≡ mean code_ratio.top code_ratio.bottom → Valued n r add full pool i d (Ok (Some v))
      unfolding code_ratio ratio
      answer_mean {v} any e = answered (ap (λ x. Ok (Some x)) e ∙ go (draw_count pool d) (λ z. any (weight_count ∙ z)))
        where
          go : (k : ℕ) → (k ≡ 0 → ⊥) → Ok (Some (mean (draw_sum n r full pool i d) k)) ≡ drawn (draw_sum n r full pool i d) k
          go zero f = absurd (f refl)
          go (suc k) f = refl

-- too many draws for any best
pub answer_heavy : {n r : ℕ} {add : List ℕ} {full : List ℤ} {pool : List ℕ} {i d : ℕ} → Passed n r add full pool i d → (binomial (total pool) d ≤ 2 ^ 53 → ⊥) → Valued n r add full pool i d (Err Weight)
unfolding draw_most
answer_heavy {n} {r} {add} {full} {pool} {i} {d} p f = record {
  numbered = limit p.sizes p.lengths p.fills p.table (λ l. f (le_trans (le_of_eq (sym (mul-one (binomial (total pool) d)))) (le_trans (mul-le-mul_left (binomial (total pool) d) (omega arith)) l.within)));
  valued = refl;
  is = λ e. absurd (let z : ◌≡◌ {A = ℕ} 9 0 = e in omega arith);
}

-- a refusal of what is judged before
pub answer_refused : {n r : ℕ} {add : List ℕ} {full : List ℤ} {pool : List ℕ} {i d : ℕ} (e : Refusal) → DrawNumber n r add full pool i d (code_of e) → Valued n r add full pool i d (Err e)
answer_refused {n} {r} {add} {full} {pool} {i} {d} e j = record { numbered = j; valued = go (code_of e) (code_some e); is = λ z. absurd (code_some e z) }
  where
    go : (k : ℕ) → (k ≡ 0 → ⊥) → unplayable ≡ given k (draw_mean n r full pool i d)
    go zero f = absurd (f refl)
    go (suc k) f = refl

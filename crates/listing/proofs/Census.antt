-- The census of a board that is asked rightly: the number of its refusal, and the sums that the table of its bests gives.
use Rattle.std.proofs.Common.{zero, suc, take, replicate, le_of_suc-le-suc, length-take-le, get_or-take, ◌≡◌, ℕ, ◌+◌, ◌*◌, ◌^◌, ◌<◌, ◌≤◌, max, Bool, true, false, cond, leb, List, ◌∷◌, length, get_or, ℤ, pos, ◌*ℤ◌, nat_abs, sym, refl, ap, ◌∙◌, subst, le_trans, add_comm, mul-le-mul_left, arith, eq-eqb, le-leb, leb-true}
use native.Mathlib.Nat.{le-suc}
use lib.Ieee.{Float, nan, binary64, of_bits}
use lib.ListN.{length-replicate}
use Rattle.whole.proofs.Steps.{zero_literal}
use borrow.Author.Tests.{lt-leb}
use Rattle.laws.specs.Every.{Every, every_nil, every_cons, every_member, every_map}
use Rattle.laws.specs.Sums.{integers, select, sum_cong_on}
use Rattle.whole.specs.Whole.{whole}
use Rattle.binomials.specs.Binomial.{binomial, positive}
use Rattle.lattice.specs.Tally.{total, tallies, lattice, start, start_suc}
use Rattle.lattice.specs.Tallies.{Fits, tallies_fit, start_mono}
use Rattle.lattice.specs.Lattice.{length_lattice_start}
use Rattle.lattice.specs.Rank.{rank_at, at_fits}
use Rattle.lattice.specs.Served.{Served, facts}
use Rattle.lattice.specs.Numbers.{len_number}
use Rattle.hands.specs.Hands.{holds, ways, hand_sum}
use Rattle.hands.proofs.Hands.{hand_sum_cond}
use Rattle.search.specs.Split.{best_split}
use Rattle.search.specs.Refusals.{table_number}
use Rattle.search.specs.Answers.{Tabled}
use Rattle.sums.specs.Weight.{largest, Clear}
use Rattle.sums.specs.Largest.{both_small, split_largest}
use Rattle.table_sums.specs.Table.{best_at, most_best, Limit, Verdict, sizes, lengths, entries, limits, accepted, Apportioned}
use Rattle.listing.specs.Sizes.{cells_of, Cells, cells_served}
use Rattle.listing.specs.declared.board.Board.{Board as Lent}
use Rattle.listing.specs.Board.{board_lent}
use Rattle.listing.specs.Listing.{Board, leave_at, count_at, sum_at, weight, board_number, Asked, Summed}
use Rattle.listing.proofs.Bounds.{summed}

-- ---- sizes that are served

module _ (n r : ℕ) (some : 0 < cells_of n r) where
  pub sizes_served : Served n r
  sizes_served = facts n r (cells_served n r some).sizes

  -- there is a leave, and no more than multisets
  pub leaves_some : 0 < start n r
  leaves_some = le_trans (positive (0 + n) n (omega arith)) (subst (λ (k : ℕ). k ≤ start n r) (start_suc n 0) (start_mono n sizes_served.some_tile))

  pub leaves_few : start n r ≤ cells_of n r
  leaves_few =
      let c = cells_served n r some in
      omega (arith, start_mono n (le-suc r), start_suc n r, ap (λ (k : ℕ). binomial k n) (add_comm r n), c.is)

  -- a start that a lattice gives is that of the full racks
  pub start_given : len_number n r ≡ 0
  unfolding len_number
  start_given = rw (cells_served n r some).sizes

-- ---- the number of a board

-- a board that is lent asks rightly, where the tables have its length and the sums are +0.0
pub asked : (b : Lent) {best : ℕ} {num den : List Float} → best ≡ cells_of b.n b.r → length num ≡ cells_of b.n b.r → length den ≡ cells_of b.n b.r
    → Clear num → Clear den → Asked (board_lent b) best num den
asked b bests nums dens num_clear den_clear =
    record {
      served = b.served;
      counts = b.counts;
      sheets = b.sheets;
      leaves = b.leaves;
      bests = bests;
      nums = nums;
      dens = dens;
      num_clear = num_clear;
      den_clear = den_clear;
    }

pub told_table : {n r k : ℕ} {sheet leave entry exit : List ℤ} → Tabled n r sheet leave entry k exit → Tabled n r sheet leave entry (table_number n r sheet leave (length entry)) exit
told_table {n} {r} {sheet = sheet} {leave = leave} {entry = entry} {exit = exit} t = subst (λ (j : ℕ). Tabled n r sheet leave entry j exit) t.answered t

-- the weight with the largest entries as they were found
module _ (b : Board) {x y : ℕ} (e : x ≡ largest b.sheet) (f : y ≡ largest b.leave) where
  pub weight_told : binomial (total b.pool) b.r * max 16 (x + y) ≤ 2 ^ 53 → weight b ≤ 2 ^ 53
  unfolding weight
  weight_told h = rw (← e, ← f) h

  pub told_weight : weight b ≤ 2 ^ 53 → binomial (total b.pool) b.r * max 16 (x + y) ≤ 2 ^ 53
  unfolding weight
  told_weight h = rw (e, f) h

module _ {b : Board} {best : ℕ} {num den : List Float} (a : Asked b best num den) where
  abbrev most : ℕ
  most = max (largest b.sheet) (largest b.leave)

  cells : Cells b.n b.r
  cells = cells_served b.n b.r a.served

  table_number_lem : table_number b.n b.r b.sheet b.leave best ≡ cond (leb most 536870911) 0 5
  unfolding table_number
  table_number_lem =
      rw
      (cells.sizes, eq-eqb (length b.sheet) (binomial (b.n + b.r) b.n) (a.sheets ∙ cells.is), eq-eqb (length b.leave) (binomial (b.n + b.r) b.n) (a.leaves ∙ cells.is), eq-eqb best (binomial (b.n + b.r) b.n) (a.bests ∙ cells.is), both_small b.sheet b.leave)
      refl

  module _ {k : ℕ} (told : k ≡ table_number b.n b.r b.sheet b.leave best) where
    -- an entry is beyond
    pub refused_entry : (k ≡ 0 → ⊥) → k ≡ board_number b
    unfolding board_number
    refused_entry not = go (leb most 536870911) (cond (leb (weight b) (2 ^ 53)) 0 9) (told ∙ table_number_lem)
      where
        go : (t : Bool) (rest : ℕ) → k ≡ cond t 0 5 → k ≡ cond t rest 5
        go true rest e = absurd (not e)
        go false rest e = e

    -- none is
    pub entries_fit : k ≡ 0 → most ≤ 536870911
    entries_fit z = go (leb most 536870911) refl (sym z ∙ told ∙ table_number_lem)
      where
        go : (t : Bool) → leb most 536870911 ≡ t → ◌≡◌ {A = ℕ} 0 (cond t 0 5) → most ≤ 536870911
        go true e q = leb-true most 536870911 e
        go false e q = absurd (five q)
          where
            five : ◌≡◌ {A = ℕ} 0 5 → ⊥
            five p = omega arith

  module _ (fit : most ≤ 536870911) where
    pub refused_weight : (weight b ≤ 2 ^ 53 → ⊥) → 9 ≡ board_number b
    unfolding board_number
    refused_weight not = rw (le-leb most 536870911 fit, lt-leb (weight b) (2 ^ 53) (omega arith)) refl

    pub not_refused : weight b ≤ 2 ^ 53 → 0 ≡ board_number b
    unfolding board_number
    not_refused h = rw (le-leb most 536870911 fit, le-leb (weight b) (2 ^ 53) h) refl

-- ---- the table sums of its bests

-- every entry of a list is at most B in size, so its largest is
largest_le : {B : ℕ} {xs : List ℤ} → Every (λ x. nat_abs x ≤ B) xs → largest xs ≤ B
unfolding largest
largest_le every_nil = omega arith
largest_le (every_cons p e) = let h = largest_le e in omega arith

every_select : {A : Type 0} {P : A → Type 0} (p : A → Bool) {xs : List A} → Every P xs → Every P (select p xs)
every_select p every_nil = every_nil
every_select {P = P} p (every_cons {x = x} {xs = xs} q e) = go (p x) (every_select p e)
  where
    go : (t : Bool) → Every P (select p xs) → Every P (cond t (x ∷ select p xs) (select p xs))
    go true rest = every_cons q rest
    go false rest = rest

-- where no condition of the call fails it is accepted
verdict_0 : {A B C D : Type 0} {k : ℕ} → Verdict A B C D k → A → B → C → D → k ≡ 0
verdict_0 (sizes f) a b c d = absurd (f a)
verdict_0 (lengths _ f) a b c d = absurd (f b)
verdict_0 (entries _ _ f) a b c d = absurd (f c)
verdict_0 (limits _ _ _ f) a b c d = absurd (f d)
verdict_0 (accepted _ _ _ _) a b c d = refl

module _ {b : Board} {best best' : List ℤ} {num den num' den' : List Float} {j k : ℕ} (a : Asked b (length best) num den)
    (t : Tabled b.n b.r b.sheet b.leave best j best') (ok : j ≡ 0) (within : weight b ≤ 2 ^ 53)
    (h : Apportioned b.n b.r best' b.pool num den k num' den') where
  size_is : cells_of b.n b.r ≡ binomial (b.n + b.r) b.n
  size_is = (cells_served b.n b.r a.served).is

  -- no best is above the largest sheet and the largest leave together
  bests_few : Every (λ R. nat_abs (best_at b.n best' R) ≤ largest b.sheet + largest b.leave) (tallies b.n b.r)
  bests_few = every_member (tallies b.n b.r) (λ R m. few R (tallies_fit b.n b.r R m))
    where
      few : (R : List ℕ) → Fits b.n b.r R → nat_abs (best_at b.n best' R) ≤ largest b.sheet + largest b.leave
      few R f = rw (t.full ok R f.letters f.tiles) (split_largest b.sheet b.leave b.n R)

  most_few : most_best b.n b.r best' b.pool ≤ max 16 (largest b.sheet + largest b.leave)
  most_few =
      let l = largest_le (every_map (best_at b.n best') (every_select (holds b.pool) bests_few)) in
      omega arith

  limit : Limit b.n b.r best' b.pool
  unfolding weight
  limit = record { within = le_trans (mul-le-mul_left (binomial (total b.pool) b.r) most_few) within }

  pub census_0 : k ≡ 0
  census_0 =
      verdict_0
      h.answered
      (cells_served b.n b.r a.served).sizes
      (record { bests = t.size ∙ a.bests ∙ size_is; letters = a.counts; nums = a.nums ∙ size_is; dens = a.dens ∙ size_is })
      (a.num_clear, a.den_clear)
      limit

  -- the sum over the table's bests is that over the best splits
  sum_same : (m : List ℕ) → hand_sum b.pool b.r (best_at b.n best') m ≡ hand_sum b.pool b.r (best_split b.sheet b.leave b.n) m
  sum_same m =
      hand_sum_cond b.pool b.r (best_at b.n best') m
      ∙ sum_cong_on integers (every_member (tallies (length b.pool) b.r) (λ R i. ap (λ (z : ℤ). cond (holds R m) (pos (ways b.pool R) *ℤ z) (pos 0)) (same R (tallies_fit (length b.pool) b.r R i))))
      ∙ sym (hand_sum_cond b.pool b.r (best_split b.sheet b.leave b.n) m)
    where
      same : (R : List ℕ) → Fits (length b.pool) b.r R → best_at b.n best' R ≡ best_split b.sheet b.leave b.n R
      same R f = t.full ok R (f.letters ∙ a.counts) f.tiles

  below : (i : ℕ) → i < start b.n b.r → i < length (lattice b.n b.r)
  below i l = omega (arith, length_lattice_start b.n b.r, start_mono b.n (le-suc b.r))

  pub census_summed : 0 ≡ board_number b → Summed b (start b.n b.r) num' den'
  unfolding sum_at count_at
  census_summed clear =
      summed b (start b.n b.r) num' den' (sym clear)
      (λ i l. ap (λ (j : ℕ). get_or num' j nan) (sym (rank_at b.n b.r i (below i l))) ∙ (h.filled census_0).sum (leave_at b i) (at_fits b.n b.r i (below i l)) ∙ ap whole (sum_same (leave_at b i)))
      (λ i l. ap (λ (j : ℕ). get_or den' j nan) (sym (rank_at b.n b.r i (below i l))) ∙ (h.filled census_0).count (leave_at b i) (at_fits b.n b.r i (below i l)))

-- ---- tables of +0.0

-- the start of a table that is clear
clear_take : (k : ℕ) (xs : List Float) → k ≤ length xs → Clear xs → Clear (take k xs)
clear_take k xs h c i l =
    let m : i < k = omega (arith, length-take-le k xs h) in
    get_or-take k xs i nan m ∙ c i (omega arith)

clear_zeros : (k : ℕ) → Clear (replicate k (of_bits binary64 0))
clear_zeros k i l = at k i (omega (arith, length-replicate k (of_bits binary64 0)))
  where
    at : (k i : ℕ) → i < k → get_or (replicate k (of_bits binary64 0)) i nan ≡ whole (pos 0)
    at (suc k) zero h = zero_literal
    at (suc k) (suc i) h = at k i (le_of_suc-le-suc h)
    at zero _ h = elim h [ ]

pub clear_start : (j k : ℕ) → j ≤ k → Clear (take j (replicate k (of_bits binary64 0)))
clear_start j k h = clear_take j (replicate k (of_bits binary64 0)) (omega (arith, length-replicate k (of_bits binary64 0), h)) (clear_zeros k)

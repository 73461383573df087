-- What accepted calls give, for the layers above. Assumes nothing.
use Rattle.std.specs.Prelude.{◌≡◌, refl, cond, ◌⊎◌, List, ℕ, ◌≤◌, ◌<◌, ℤ, pos, length, get_or, ◌≤ℤ◌, ◌<ℤ◌, Result}
use Rattle.std.proofs.Common.{sym, ◌∙◌, subst, eq-or-lt_of_le, arith}
use Rattle.std.proofs.Math.Path.{ap}
use Rattle.std.proofs.Math.Logic.{inl, inr, ⊎_elim}
use Rattle.std.specs.Int.Signed.{lt_z}
use Rattle.whole.specs.Mean.{unplayable}
use Rattle.laws.specs.Integer.{<ℤ-≤ℤ, ≡-≤ℤ}
use Rattle.lattice.specs.Tally.{total, lattice, tally_at, start, rank_of, Within, minus, parts}
use Rattle.lattice.specs.Parts.{part_length, part_total, parts_within, parts_all, rest_within}
use Rattle.lattice.specs.Lattice.{length_lattice}
use Rattle.lattice.specs.Rank.{rank_at, rank_below, rank_to, at_fits}
use Rattle.lattice.specs.Tallies.{start_mono}
use Rattle.search.specs.Split.{best_split}
use Rattle.search.specs.Best.{rest_rest, ValueIn}
use Rattle.search.specs.Naive.{played_of, FirstBest, played_first}
use Rattle.search.specs.Order.{KeptLe}
use Rattle.search.specs.BestKeep.{no_leave, leave_of, best_keep, best_keep_lem, of_tiles, mem_of_tiles, of_of_tiles}
use Rattle.search.specs.Refusals.{Sized}
use Rattle.search.specs.Answers.{given, best_number, best_value, Answered, Tabled, word, exchange, move_number, move_value, move_kind, refusal, Played}
use Rattle.search.specs.declared.Kept.{Kept}
use Rattle.search.specs.declared.calls.Play.{Play}
use Rattle.refusal.specs.declared.Refusal.{Refusal}

-- ---- best_equity_of

-- an accepted call's value is the best that the contract names
pub equity_best : {k : ℕ} {v : ℤ} {b : Result ℤ Refusal} → Answered k v b → best_number b ≡ 0 → best_value b ≡ v
unfolding given
equity_best h e = h.valued ∙ rw (sym h.numbered ∙ e)

-- ---- best_equity_table

-- the entry at a full rack is its best split
module _ {n r : ℕ} {sheet leave entry exit : List ℤ} {answer : ℕ} (h : Tabled n r sheet leave entry answer exit) (accepted : answer ≡ 0) where
  pub table_best : (t : List ℕ) → length t ≡ n → total t ≡ r → get_or exit (rank_of n t) (pos 0) ≡ best_split sheet leave n t
  table_best = h.full accepted

  -- the same by rank
  pub table_at : (i : ℕ) → start n r ≤ i → i < length (lattice n r) → get_or exit i (pos 0) ≡ best_split sheet leave n (tally_at n r i)
  table_at i low high =
      let f = at_fits n r i high in
      let e = rank_at n r i high in
      ap (λ (k : ℕ). get_or exit k (pos 0)) (sym e) ∙ table_best (tally_at n r i) f.letters (full (tally_at n r i) f.letters f.tiles e)
    where
      full : (t : List ℕ) → length t ≡ n → total t ≤ r → rank_of n t ≡ i → total t ≡ r
      full t l k e = ⊎_elim (λ q. q) (λ m. absurd (omega (arith, rank_to n t l, start_mono n m, e))) (eq-or-lt_of_le k)

-- ---- naive_best_equity

module _ {n r : ℕ} {sheet leave : List ℤ} {t entry exit : List ℕ} {b : Result Play Refusal} (h : Played n r sheet leave t entry b exit) where
  module _ (accepted : move_number b ≡ 0) where
    no_refusal : refusal n r sheet leave t entry ≡ 0
    no_refusal = sym h.numbered ∙ accepted

    -- the naive search's best is the best split
    pub naive_best : move_value b ≡ best_split sheet leave n t
    unfolding given
    naive_best = h.valued ∙ rw no_refusal

    rest_is : exit ≡ minus t (played_of sheet leave n t)
    unfolding given
    rest_is = h.rest ∙ rw no_refusal

    played_is : minus t exit ≡ played_of sheet leave n t
    played_is = ap (minus t) rest_is ∙ rest_rest (played_of sheet leave n t) t (played_first sheet leave n t).inside

    -- what is kept is a part of the rack, and the rest of the rack, which is played, is the smallest tally that attains the best
    pub kept_within : Within exit t
    kept_within = subst (λ (k : List ℕ). Within k t) (sym rest_is) (rest_within (played_of sheet leave n t) t (played_first sheet leave n t).inside)

    pub kept_first : FirstBest sheet leave n t (minus t exit)
    kept_first = subst (FirstBest sheet leave n t) (sym played_is) (played_first sheet leave n t)

    -- a word where the sheet's entry at what is played is above 0, otherwise an exchange
    pub kind_played : move_kind b ≡ cond (lt_z (pos 0) (get_or sheet (rank_of n (minus t exit)) (pos 0))) word exchange
    unfolding given
    kind_played = h.kind ∙ rw (no_refusal, ← played_is)

-- ---- best_keep_of

-- the value and the rank of a part of t with k tiles
pub record PartOf (leave : List ℤ) (n : ℕ) (t : List ℕ) (k : ℕ) (x : Kept) : Type 0 where
  pub part : List ℕ
  pub inside : Within part t
  pub tiles : total part ≡ k
  pub value : x.value ≡ get_or leave (rank_of n part) (pos 0)
  pub rank : x.rank ≡ rank_of n part

module _ (leave : List ℤ) (n : ℕ) (t : List ℕ) (k : ℕ) where
  -- nothing better exists: no part of k tiles has a greater value, and none of the same value a smaller rank
  pub keep_bound : (q : List ℕ) → Within q t → total q ≡ k → KeptLe (leave_of leave n q) (best_keep leave n t k)
  keep_bound q h e = (best_keep_lem leave n t k).bound (leave_of leave n q) (record { part = q; there = mem_of_tiles k (parts t) (parts_all t q h) e; is = refl })

  -- and it is attained, or none
  pub keep_attained : (best_keep leave n t k ≡ no_leave) ⊎ PartOf leave n t k (best_keep leave n t k)
  unfolding leave_of
  keep_attained = ⊎_elim inl (λ h. inr (part h)) (best_keep_lem leave n t k).attained
    where
      part : ValueIn (leave_of leave n) (of_tiles k (parts t)) (best_keep leave n t k) → PartOf leave n t k (best_keep leave n t k)
      part h =
          let m = of_of_tiles k (parts t) h.there in
          record { part = h.part; inside = parts_within t h.part m.0; tiles = m.1; value = ap (λ (x : Kept). x.value) (sym h.is); rank = ap (λ (x : Kept). x.rank) (sym h.is) }

  -- a value that is given is not under UNPLAYABLE
  pub keep_playable : unplayable ≤ℤ (best_keep leave n t k).value
  keep_playable = ⊎_elim (λ l. <ℤ-≤ℤ l) (λ e. ≡-≤ℤ e.0) (best_keep_lem leave n t k).above.le

  -- a part of the rack has a rank
  pub rank_given : {r : ℕ} → Sized n r (length leave) (length leave) t → (q : List ℕ) → Within q t → rank_of n q < 4294967295
  rank_given {r} s q h =
      omega (arith, rank_below n r q (record { letters = part_length q t h ∙ s.letters; tiles = omega (arith, part_total q t h, s.tiles) }), length_lattice n r, s.sizes.few)

  -- where none is given, every part of k tiles has a value under UNPLAYABLE
  pub keep_none_left : {r : ℕ} → Sized n r (length leave) (length leave) t → best_keep leave n t k ≡ no_leave → (q : List ℕ) → Within q t → total q ≡ k → get_or leave (rank_of n q) (pos 0) <ℤ unplayable
  unfolding leave_of
  keep_none_left {r} s none q h e =
      ⊎_elim (λ l. l) (λ m. absurd (omega (arith, m.1, rank_given s q h)))
      (subst (KeptLe (leave_of leave n q)) none (keep_bound q h e)).le

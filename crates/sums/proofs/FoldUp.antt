-- What the fold leaves in num, from +0.0: at each leave the sum over the full racks that hold it of ways times best, as a whole number. Assumes nothing.
use Rattle.std.specs.Prelude.{ℕ, ◌+◌, ◌^◌, ◌≤◌, ◌<◌, List, map, ◌≡◌, Float, ℤ, pos, nat_abs, ◌+ℤ◌, length, get_or, replicate}
use Rattle.std.proofs.Common.{sym, ap, ◌∙◌, arith}
use Rattle.std.specs.Float.{nan}
use Rattle.std.proofs.lemmas.List.{length-replicate}
use Rattle.std.proofs.Math.ListN.{get_or-eq_default}
use Rattle.std.proofs.Math.Decide.{dec_lt}
use Rattle.whole.specs.Whole.{whole}
use Rattle.sums.specs.Folds.{ways_best_ℤ, sum_all, sum_all_f}
use Rattle.lattice.specs.Tables.{Rises}
use Rattle.laws.specs.Lists.{get_or_map_lt, map_replicate, get_or_replicate}
use Rattle.lattice.specs.Tally.{total, start, rank_of}
use Rattle.lattice.specs.Leaves.{table_rises, leave_rank, leave_at}
use Rattle.laws.specs.Sums.{naturals, integers}
use Rattle.sums.proofs.FoldExact.{fold_up_exact}
use Rattle.sums.proofs.Supersets.{length_sums, superset_sums}
use Rattle.sums.specs.FoldUp.{over_racks, Exactly}

module _ (n r : ℕ) (add unseen : List ℕ) (ways best : List ℤ) (h : Exactly n r add unseen ways best) where
  abbrev rack : ℕ → ℤ
  rack = ways_best_ℤ (start n r) ways best

  abbrev zeros_ℤ : List ℤ
  zeros_ℤ = replicate (start n r) (pos 0)

  abbrev magnitudes : List ℕ
  magnitudes = sum_all 0 ◌+◌ (λ j. nat_abs (rack j)) (start n r) n add unseen (map nat_abs zeros_ℤ)

  rises : Rises n (start n r) (length best) add
  rises = rw h.all (table_rises n r add h.table)

  zero_size : length (map nat_abs zeros_ℤ) ≡ start n r
  zero_size = rw (map_replicate nat_abs (start n r) (pos 0)) (length-replicate (start n r) (nat_abs (pos 0)))

  limited : (i : ℕ) → get_or magnitudes i 0 ≤ 2 ^ 53
  limited i = go (dec_lt i (start n r))
    where
      at_leave : (x : List ℕ) → length x ≡ n → total x < r → get_or magnitudes (rank_of n x) 0 ≤ 2 ^ 53
      at_leave x lx hx =
          rw (superset_sums naturals n r add h.table (λ j. nat_abs (rack j)) unseen (λ R f i l e k. ap nat_abs (h.lacking R f i l e k)) (map nat_abs zeros_ℤ) zero_size
          (λ j. rw (map_replicate nat_abs (start n r) (pos 0)) (get_or_replicate (start n r) j 0)) x lx hx) (h.within_limit x lx hx)

      go : Dec (i < start n r) → get_or magnitudes i 0 ≤ 2 ^ 53
      go (yes l) = let x = leave_at n r i l in rw x.rank at (at_leave x.leave x.letters x.tiles)
      go (no l) =
          let e = get_or-eq_default magnitudes 0 {n = i} (omega (arith, length_sums 0 ◌+◌ (λ j. nat_abs (rack j)) (start n r) n add unseen (map nat_abs zeros_ℤ), zero_size)) in
          omega arith

  -- the float at a leave is the whole number
  pub fold_up_sums : (x : List ℕ) → length x ≡ n → total x < r
      → get_or (sum_all_f (start n r) (map whole ways) best n add unseen (replicate (start n r) (whole (pos 0)))) (rank_of n x) nan ≡ whole (over_racks integers n r rack x)
  fold_up_sums x lx hx =
      ap (λ (l : List Float). get_or (sum_all_f (start n r) (map whole ways) best n add unseen l) (rank_of n x) nan) (sym (map_replicate whole (start n r) (pos 0)))
      ∙ ap (λ (l : List Float). get_or l (rank_of n x) nan) (fold_up_exact (start n r) n add unseen ways best rises h.racks h.small zeros_ℤ (length-replicate (start n r) (pos 0)) limited)
      ∙ get_or_map_lt whole (sum_all (pos 0) ◌+ℤ◌ rack (start n r) n add unseen zeros_ℤ) (rank_of n x) (pos 0) nan
      (omega (arith, leave_rank n r x lx hx, length_sums (pos 0) ◌+ℤ◌ rack (start n r) n add unseen zeros_ℤ, length-replicate (start n r) (pos 0)))
      ∙ ap whole (superset_sums integers n r add h.table rack unseen h.lacking zeros_ℤ (length-replicate (start n r) (pos 0)) (λ i. get_or_replicate (start n r) i (pos 0)) x lx hx)

-- The sums over supersets: from sums of zero, `sum_all` gives at each leave the sum over the full racks that hold it, each once. Assumes nothing.
use Rattle.std.specs.Prelude.{ℕ, zero, suc, ◌≤◌, ◌<◌, Bool, true, false, cond, List, ◌≡◌, refl, leb, eqb, length, get_or, set}
use Rattle.std.proofs.Common.{sym, ap, ap₂, ◌∙◌, le-leb, eqb-true, length-set, le_refl, arith}
use Rattle.std.proofs.lemmas.Bool.{lt-leb}
use Rattle.std.proofs.Math.Decide.{ℕ_discrete, dec_le}
use Rattle.laws.specs.Loops.{ascend, descend}
use Rattle.laws.specs.Sums.{Additive, sum_in}
use Rattle.lattice.specs.Tally.{total, tallies, lattice, start, rank_of, tally_at}
use Rattle.lattice.specs.Tallies.{Fits}
use Rattle.lattice.specs.Rank.{rank_at, at_rank}
use Rattle.lattice.specs.Tables.{up}
use Rattle.lattice.specs.Leaves.{AddTable, leave_rank}
use Rattle.hands.specs.Hands.{holds}
use Rattle.hands.specs.Fold.{partial_lacking}
use Rattle.hands.specs.Pass.{Ranking, run, length_run, run_none, run_all, run_next, run_up, table, entry, entry_done, entry_kept, entry_start, entry_end, entry_step, table_leave, table_full}
use Rattle.hands.proofs.Pass.{table_end}
use Rattle.hands.specs.Table.{ranking}
use Rattle.sums.specs.Folds.{gained, length_gained, at_gained, at_other, sum_pass, sum_letter, sum_all}

-- ---- lengths

module _ {A : Type 0} (z : A) (plus : A → A → A) (rack : ℕ → A) (lo n : ℕ) (add unseen : List ℕ) where
  length_pass : (to : ℕ → ℕ) (k : ℕ) (num : List A) → length (descend (λ i. gained z plus rack lo i (to i)) k num) ≡ length num
  length_pass to zero num = refl
  length_pass to (suc k) num = length_pass to k (gained z plus rack lo k (to k) num) ∙ length_gained z plus rack lo k (to k) num

  length_letter : (t : ℕ) (num : List A) → length (sum_letter z plus rack lo n add unseen t num) ≡ length num
  length_letter t num = go (eqb (get_or unseen t 0) 0)
    where
      go : (b : Bool) → length (cond b num (sum_pass z plus rack lo (up n add t) num)) ≡ length num
      go true = refl
      go false = length_pass (up n add t) lo num

  length_letters : (t : ℕ) (num : List A) → length (ascend (sum_letter z plus rack lo n add unseen) t num) ≡ length num
  length_letters zero num = refl
  length_letters (suc t) num = length_letter t (ascend (sum_letter z plus rack lo n add unseen) t num) ∙ length_letters t num

  pub length_sums : (num : List A) → length (sum_all z plus rack lo n add unseen num) ≡ length num
  length_sums num = length_letters n num

-- ---- the passes over the lattice

module _ (𝓜 : Additive) (n r : ℕ) (add : List ℕ) (ranks : AddTable n r add) (rack : ℕ → 𝓜.Carrier) where
  open 𝓜 use {Carrier, none, plus}

  -- what a full rack counts for
  abbrev counts : List ℕ → Carrier
  counts R = rack (rank_of n R)

  abbrev table_of : List Bool → ℕ → Carrier
  table_of = table 𝓜 n r counts (tally_at n r)

  abbrev entry_of : List Bool → ℕ → ℕ → ℕ → Carrier
  entry_of = entry 𝓜 n r counts (tally_at n r)

  ρ : Ranking n r (start n r) (length (lattice n r)) (tally_at n r) (λ k i. up n add i k)
  ρ = ranking n r add ranks

  -- the sums at the leaves are those of the letters taken
  abbrev Right : List Bool → List Carrier → Type 0
  Right taken num = (k : ℕ) → k < start n r → get_or num k none ≡ table_of taken k

  module _ (taken : List Bool) (i : ℕ) (size : length taken ≡ n) (next : get_or taken i true ≡ false) (h : i < n) where
    -- in the pass of letter i, with the entries from j on done
    abbrev Mid : ℕ → List Carrier → Type 0
    Mid j num = (k : ℕ) → k < start n r → get_or num k none ≡ entry_of taken i j k

    superset : (j : ℕ) (num : List Carrier) → j < start n r → Mid (suc j) num
        → cond (leb (start n r) (up n add i j)) (rack (up n add i j)) (get_or num (up n add i j) none) ≡ entry_of taken i (suc j) (up n add i j)
    superset j num l m = go (dec_le (start n r) (up n add i j))
      where
        go : Dec (start n r ≤ up n add i j) → cond (leb (start n r) (up n add i j)) (rack (up n add i j)) (get_or num (up n add i j) none) ≡ entry_of taken i (suc j) (up n add i j)
        go (yes q) =
            rw (le-leb (start n r) (up n add i j) q)
            (sym
            (entry_done 𝓜 n r counts (tally_at n r) taken i (suc j) (up n add i j) (ρ.up_above j i l h)
            ∙ table_full 𝓜 n r counts (tally_at n r) ρ (set taken i true) (up n add i j) (length-set taken i true ∙ size) q (ρ.up_in j i l h)
            ∙ ap rack (rank_at n r (up n add i j) (ρ.up_in j i l h))))
        go (no q) = rw (lt-leb (start n r) (up n add i j) (omega arith)) (m (up n add i j) (omega arith))

    step : (j : ℕ) (num : List Carrier) → j < start n r → length num ≡ start n r → Mid (suc j) num → Mid j (gained none plus rack (start n r) j (up n add i j) num)
    step j num l s m k lk = go (ℕ_discrete k j)
      where
        go : Dec (k ≡ j) → get_or (gained none plus rack (start n r) j (up n add i j) num) k none ≡ entry_of taken i j k
        go (yes e) =
            rw e
            (at_gained none plus rack (start n r) j (up n add i j) num (omega arith)
            ∙ ap₂ plus (m j l) (superset j num l m)
            ∙ sym (entry_step 𝓜 n r counts (tally_at n r) ρ taken i j next h l))
        go (no e) = at_other none plus rack (start n r) j (up n add i j) k num e ∙ m k lk ∙ entry_kept 𝓜 n r counts (tally_at n r) taken i j k e

    pass : (j : ℕ) (num : List Carrier) → j ≤ start n r → length num ≡ start n r → Mid j num → Mid zero (descend (λ k. gained none plus rack (start n r) k (up n add i k)) j num)
    pass zero num l s m = m
    pass (suc j) num l s m = pass j (gained none plus rack (start n r) j (up n add i j) num) (omega arith) (length_gained none plus rack (start n r) j (up n add i j) num ∙ s) (step j num l s m)

    pass_right : (num : List Carrier) → length num ≡ start n r → Right taken num → Right (set taken i true) (sum_pass none plus rack (start n r) (up n add i) num)
    pass_right num s p k l =
        pass (start n r) num (le_refl (start n r)) s (λ k l. p k l ∙ sym (entry_start 𝓜 n r counts (tally_at n r) ρ taken i k size (omega (arith, ρ.leaves_in)))) k l
        ∙ entry_end 𝓜 n r counts (tally_at n r) taken i k

  -- ---- every letter's pass, and none for a letter that the pool lacks: the full racks with it count for nothing

  module _ (unseen : List ℕ) (lacking : (R : List ℕ) → Fits n r R → (i : ℕ) → i < n → get_or unseen i 0 ≡ 0 → 0 < get_or R i 0 → rack (rank_of n R) ≡ none) where
    letter_right : (i : ℕ) (num : List Carrier) → i < n → length num ≡ start n r → Right (run true n i) num → Right (run true n (suc i)) (sum_letter none plus rack (start n r) n add unseen i num)
    letter_right i num h s p = go (eqb (get_or unseen i 0) 0) refl
      where
        size : length (run true n i) ≡ n
        size = length_run true n i (omega arith)

        next : get_or (run true n i) i true ≡ false
        next = run_next true true n i h

        go : (b : Bool) → eqb (get_or unseen i 0) 0 ≡ b → Right (run true n (suc i)) (cond b num (sum_pass none plus rack (start n r) (up n add i) num))
        go true e k l =
            p k l
            ∙ sym (partial_lacking 𝓜 n r counts (run true n i) i (tally_at n r k) next size h (ρ.letters k (omega (arith, ρ.leaves_in))) (λ R a b c. lacking R (record { letters = a; tiles = b }) i h (eqb-true (get_or unseen i 0) 0 e) c))
            ∙ ap (λ (t : List Bool). table_of t k) (run_up true n i h)
        go false e k l = pass_right (run true n i) i size next h num s p k l ∙ ap (λ (t : List Bool). table_of t k) (run_up true n i h)

    letters_right : (t : ℕ) (num : List Carrier) → t ≤ n → length num ≡ start n r → Right (run true n zero) num → Right (run true n t) (ascend (sum_letter none plus rack (start n r) n add unseen) t num)
    letters_right zero num l s p = p
    letters_right (suc t) num l s p =
        letter_right t (ascend (sum_letter none plus rack (start n r) n add unseen) t num) l (length_letters none plus rack (start n r) n add unseen t num ∙ s)
        (letters_right t num (omega arith) s p)

    -- at each leave: the sum over the full racks that hold it
    pub superset_sums : (num : List Carrier) → length num ≡ start n r → ((i : ℕ) → get_or num i none ≡ none)
        → (x : List ℕ) → length x ≡ n → total x < r
        → get_or (sum_all none plus rack (start n r) n add unseen num) (rank_of n x) none ≡ sum_in 𝓜 (tallies n r) (λ R. cond (holds R x) (rack (rank_of n R)) none)
    superset_sums num s zeros x lx hx =
        letters_right n num (le_refl n) s (λ k l. zeros k ∙ sym (table_leave 𝓜 n r counts (tally_at n r) ρ k l) ∙ ap (λ (t : List Bool). table_of t k) (sym (run_none true n))) (rank_of n x) leave
        ∙ ap (λ (t : List Bool). table_of t (rank_of n x)) (run_all true n)
        ∙ table_end 𝓜 n r counts (tally_at n r) ρ (rank_of n x) (omega (arith, leave, ρ.leaves_in))
        ∙ ap (λ (t : List ℕ). sum_in 𝓜 (tallies n r) (λ R. cond (holds R t) (rack (rank_of n R)) none)) (at_rank n r x (record { letters = lx; tiles = omega arith }))
      where
        leave : rank_of n x < start n r
        leave = leave_rank n r x lx hx

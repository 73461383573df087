-- A letter's pass over all multisets, and every letter's: each entry becomes the sum over its supersets. Assumes nothing.
use Rattle.std.specs.Prelude.{◌≡◌, refl, ◌⊎◌, Bool, true, false, cond, List, ℕ, zero, suc, ◌+◌, ◌-◌, ◌≤◌, ◌<◌, Float, ℤ, pos, length, get_or, set, replicate}
use Rattle.std.proofs.Common.{sym, ap, ap₂, ◌∙◌, inl, inr, length-set, add-one, arith}
use Rattle.std.specs.Float.{nan, binary64}
use Rattle.std.specs.Float.Ieee.{add}
use Rattle.std.proofs.Math.Nat.{sub-zero}
use Rattle.std.proofs.Math.Decide.{dec_lt, ℕ_discrete}
use Rattle.laws.specs.Sums.{integers, sum_over_ℤ}
use Rattle.whole.specs.Whole.{whole, Small}
use Rattle.whole.proofs.Steps.{add_whole}
use Rattle.lattice.specs.Tally.{total, start, within, rank_of, add_tile, tallies, rank_is}
use Rattle.lattice.specs.Tallies.{count, start_count, start_mono, Fits}
use Rattle.lattice.specs.Rank.{AtMost, length_add_tile, total_add_tile}
use Rattle.lattice.specs.Served.{Served}
use Rattle.hands.specs.Hands.{holds}
use Rattle.hands.specs.Fold.{partial, partial_step, partial_full, partial_lacking}
use Rattle.hands.proofs.Fold.{partial_end}
use Rattle.hands.specs.Pass.{run, length_run, run_none, run_all, run_next, run_up}
use Rattle.table_sums.specs.Gain.{Gained, Gaining}
use Rattle.fused.specs.Deal.{within_below}

-- a becomes b by the pass of letter t: a multiset of fewer than r tiles is more by what b has for it with one tile more of t
pub record Passed (n r t : ℕ) (a b : List Float) : Type 0 where
  pub long : length b ≡ length a
  pub gains : (m : List ℕ) → length m ≡ n → total m < r → get_or b (rank_of n m) nan ≡ add binary64 (get_or a (rank_of n m) nan) (get_or b (rank_of n (add_tile m t)) nan)
  pub full : (m : List ℕ) → length m ≡ n → total m ≡ r → get_or b (rank_of n m) nan ≡ get_or a (rank_of n m) nan

-- the entries of xs are the sums of g over the full racks that meet a multiset, with some letters taken
pub record Partly (n r : ℕ) (g : List ℕ → ℤ) (taken : List Bool) (xs : List Float) : Type 0 where
  pub at : (m : List ℕ) → AtMost n r m → get_or xs (rank_of n m) nan ≡ whole (partial n r g taken m)

-- what the passes start from: g at the full racks, and +0.0 below; a rack that the pool cannot give counts for nothing, and no partial sum
-- is beyond 2 ^ 53
pub record Folding (pool : List ℕ) (r : ℕ) (g : List ℕ → ℤ) (xs : List Float) : Type 0 where
  pub begin : Partly (length pool) r g (replicate (length pool) false) xs
  pub small : (taken : List Bool) (m : List ℕ) → Small (partial (length pool) r g taken m)
  pub lacking : (R : List ℕ) (i : ℕ) → length R ≡ length pool → i < length pool → get_or pool i 0 ≡ 0 → 0 < get_or R i 0 → g R ≡ pos 0

-- what they leave: at each multiset the sum of g over the full racks that hold it
pub record Summed (n r : ℕ) (g : List ℕ → ℤ) (xs : List Float) : Type 0 where
  pub at : (m : List ℕ) → AtMost n r m → get_or xs (rank_of n m) nan ≡ whole (sum_over_ℤ (tallies n r) (λ t. cond (holds t m) (g t) (pos 0)))

-- ---- one letter's pass, larger multisets first

-- the multisets of at least s tiles are done
pub record Down (n r t s : ℕ) (a b : List Float) : Type 0 where
  pub long : length b ≡ length a
  pub done : (m : List ℕ) → length m ≡ n → total m < r → s ≤ total m → get_or b (rank_of n m) nan ≡ add binary64 (get_or a (rank_of n m) nan) (get_or b (rank_of n (add_tile m t)) nan)
  pub undone : (m : List ℕ) → length m ≡ n → (total m < s) ⊎ (total m ≡ r) → get_or b (rank_of n m) nan ≡ get_or a (rank_of n m) nan

pub down_none : (n r t : ℕ) (a : List Float) → Down n r t r a a
down_none n r t a = record { long = refl; done = λ m l h k. absurd (omega arith); undone = λ m l h. refl }

-- the multisets of s tiles and those of s + 1
rank_size : (n s : ℕ) (m : List ℕ) → total m ≡ s → rank_of n m ≡ start n s + within m
rank_size n s m e = rank_is n m ∙ ap (λ (k : ℕ). start n k + within m) e

module _ (n r t : ℕ) (letter : t < n) {s : ℕ} (inside : s < r) {a b b' : List Float} (d : Down n r t (suc s) a b) (g : Gained n t s (start n s) (start n (suc s)) b b') where
  -- an entry of another size
  other : (m : List ℕ) → length m ≡ n → (total m ≡ s → ⊥) → get_or b' (rank_of n m) nan ≡ get_or b (rank_of n m) nan
  other m l h = g.outside (rank_of n m) (side (dec_lt (total m) s))
    where
      below : within m < count n (total m)
      below = within_below n (total m) m (record { letters = l; tiles = refl })

      side : Dec (total m < s) → (rank_of n m < start n s) ⊎ (start n s + count n s ≤ rank_of n m)
      side (yes k) = inl (omega (arith, rank_is n m, below, start_count n (total m), start_mono n k))
      side (no k) =
          let more : suc s ≤ total m = omega arith in
          inr (omega (arith, rank_is n m, start_count n s, start_mono n more))

  -- an entry with one tile more
  further : (m : List ℕ) → length m ≡ n → s ≤ total m → get_or b' (rank_of n (add_tile m t)) nan ≡ get_or b (rank_of n (add_tile m t)) nan
  further m l h =
      let k : t < length m = omega arith in
      other (add_tile m t) (length_add_tile m t ∙ l) (λ e. omega (arith, total_add_tile m t k, e))

  pub down_more : Down n r t s a b'
  down_more = record { long = g.long ∙ d.long; done = λ m l h k. at m l h (ℕ_discrete (total m) s) k; undone = λ m l h. other m l (apart m h) ∙ d.undone m l (rest m h) }
    where
      apart : (m : List ℕ) → (total m < s) ⊎ (total m ≡ r) → total m ≡ s → ⊥
      apart m (inl h) e = omega arith
      apart m (inr h) e = omega arith

      rest : (m : List ℕ) → (total m < s) ⊎ (total m ≡ r) → (total m < suc s) ⊎ (total m ≡ r)
      rest m (inl h) = inl (omega arith)
      rest m (inr h) = inr h

      at : (m : List ℕ) → length m ≡ n → total m < r → Dec (total m ≡ s) → s ≤ total m
          → get_or b' (rank_of n m) nan ≡ add binary64 (get_or a (rank_of n m) nan) (get_or b' (rank_of n (add_tile m t)) nan)
      at m l h (yes e) k =
          let q : t < length m = omega arith in
          let f : Fits n s m = record { letters = l; tiles = e } in
          let u : rank_of n (add_tile m t) ≡ start n (suc s) + within (add_tile m t) = rank_size n (suc s) (add_tile m t) (total_add_tile m t q ∙ ap suc e) in
          ap (λ (i : ℕ). get_or b' i nan) (rank_size n s m e)
          ∙ g.inside m f
          ∙ ap₂ (add binary64) (ap (λ (i : ℕ). get_or b i nan) (sym (rank_size n s m e)) ∙ d.undone m l (inl (omega arith))) (ap (λ (i : ℕ). get_or b i nan) (sym u) ∙ sym (further m l k))
      at m l h (no e) k = other m l e ∙ d.done m l h (omega arith) ∙ ap (add binary64 (get_or a (rank_of n m) nan)) (sym (further m l k))

pub down_all : {n r t : ℕ} {a b : List Float} → Down n r t 0 a b → Passed n r t a b
down_all d = record { long = d.long; gains = λ m l h. d.done m l h (omega arith); full = λ m l h. d.undone m l (inr h) }

-- the call for the multisets of s tiles
module _ {n r t s w v : ℕ} (letter : t < n) (less : s < r) (w_is : w ≡ start n s) (v-is : v ≡ start n (s + 1)) where
  v_more : v ≡ start n (suc s)
  v_more = v-is ∙ ap (start n) (add-one s)

  pub size_gaining : {size : ℕ} → Served n r → size ≡ start n (suc r) → Gaining n t 0 s w v size
  size_gaining served e =
      let more : suc (suc s) ≤ suc r = omega arith in
      record {
        letter = letter;
        from = omega arith;
        few = served.letters;
        tiles = omega (arith, served.tiles);
        apart = rw sub-zero (omega (arith, w_is, v_more, start_count n s));
        room = rw sub-zero (omega (arith, v_more, start_count n (suc s), start_mono n more, e));
      }

  pub size_done : {a b b' : List Float} → Down n r t (suc s) a b → Gained (n - 0) (t - 0) s w v b b' → Down n r t s a b'
  size_done d g = down_more n r t letter less d (rw (sub-zero, w_is, v_more, sub-zero) at g)

-- ---- what a pass does to the sums

module _ (n r : ℕ) (g : List ℕ → ℤ) (small : (taken : List Bool) (m : List ℕ) → Small (partial n r g taken m)) where
  -- letter i, not yet taken
  pub partly_more : (taken : List Bool) (i : ℕ) {a b : List Float} → length taken ≡ n → get_or taken i true ≡ false → i < n → Partly n r g taken a → Passed n r i a b → Partly n r g (set taken i true) b
  partly_more taken i {a} {b} size next h p d = record { at = λ m l. by (r - total m) m l refl }
    where
      by : (k : ℕ) (m : List ℕ) → AtMost n r m → r - total m ≡ k → get_or b (rank_of n m) nan ≡ whole (partial n r g (set taken i true) m)
      by zero m l e =
          let z : total m ≡ r = omega (arith, l.tiles) in
          d.full m l.letters z ∙ p.at m l
          ∙ ap whole (partial_full integers n r g taken m size l.letters z ∙ sym (partial_full integers n r g (set taken i true) m (length-set taken i true ∙ size) l.letters z))
      by (suc k) m l e =
          let lt : total m < r = omega arith in
          let q : i < length m = omega (arith, l.letters) in
          let more : AtMost n r (add_tile m i) = record { letters = length_add_tile m i ∙ l.letters; tiles = omega (arith, total_add_tile m i q) } in
          d.gains m l.letters lt
          ∙ ap₂ (add binary64) (p.at m l) (by k (add_tile m i) more (omega (arith, total_add_tile m i q)))
          ∙ add_whole (partial n r g taken m) (partial n r g (set taken i true) (add_tile m i)) (small taken m) (small (set taken i true) (add_tile m i))
          ∙ ap whole (sym (partial_step integers n r g taken i m next))

-- ---- letter after letter

module _ {pool : List ℕ} {r : ℕ} {g : List ℕ → ℤ} {xs : List Float} (f : Folding pool r g xs) where
  abbrev n : ℕ
  n = length pool

  pub folded_none : Partly n r g (run true n 0) xs
  folded_none = rw (run_none true n) f.begin

  -- the pass of letter i
  pub folded_more : (i : ℕ) {a b : List Float} → i < n → Partly n r g (run true n i) a → Passed n r i a b → Partly n r g (run true n (i + 1)) b
  folded_more i h p d =
      rw (add-one i, ← run_up true n i h) (partly_more n r g f.small (run true n i) i (length_run true n i (omega arith)) (run_next true true n i h) h p d)

  -- a letter that the pool lacks
  pub folded_skip : (i : ℕ) {a : List Float} → i < n → get_or pool i 0 ≡ 0 → Partly n r g (run true n i) a → Partly n r g (run true n (i + 1)) a
  folded_skip i {a} h e p = record {
    at = λ m l.
        rw (add-one i)
        (p.at m l
        ∙ ap whole
        (sym (partial_lacking integers n r g (run true n i) i m (run_next true true n i h) (length_run true n i (omega arith)) h l.letters (λ R u s k. f.lacking R i u h e k))
        ∙ ap (λ (t : List Bool). partial n r g t m) (run_up true n i h)));
  }

  pub folded_all : {i : ℕ} {a : List Float} → i ≡ n → Partly n r g (run true n i) a → Summed n r g a
  folded_all e p = record { at = λ m l. p.at m l ∙ ap (λ (k : ℕ). whole (partial n r g (run true n k) m)) e ∙ ap whole (ap (λ (t : List Bool). partial n r g t m) (run_all true n) ∙ partial_end integers n r g m l.letters) }

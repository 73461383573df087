-- Runs: entries that a walk raises together, each by values of its own. Assumes nothing.
use Rattle.std.specs.Prelude.{◌≡◌, refl, true, ◌⊎◌, List, ℕ, suc, ◌+◌, ◌-◌, ◌≤◌, ◌<◌, ℤ, pos, nat_abs, length, get_or, take, set}
use Rattle.std.proofs.Common.{sym, ◌∙◌, subst, ⊎_elim, eq-or-lt_of_le, le_refl, arith, le-leb, length-set, get_or-set_same, get_or-set_other}
use Rattle.laws.specs.Greatest.{Greatest, greatest_none, greatest_join, Below, below_more, ℤ-order}
use Rattle.laws.specs.Integer.{at_ℤ}
use Rattle.whole.specs.Mean.{unplayable}
use Rattle.lattice.specs.Tally.{start}
use Rattle.lattice.specs.Step.{step}
use Rattle.search.specs.Split.{small, guarded, Bounded, worth_at, Worths, Ready}
use Rattle.search.specs.Walk.{Turn, Turns, ready_next, turn_next, walk_done}
use Rattle.runs.specs.Runs.{Absent, present}
use Rattle.search.specs.Runs.{skip_up, skip_down, end_one}

-- two entries whose sum fits: neither is beyond ±536,870,911
pub record Summed (a b : ℤ) : Type 0 where
  pub left : small a ≡ true
  pub right : small b ≡ true

-- each entry of a run became the greatest of itself and of the values of a set of its own
pub record Raised (P : ℕ → ℤ → Type 0) (entry exit : List ℤ) : Type 0 where
  pub size : length exit ≡ length entry
  pub each : (j : ℕ) → j < length entry → Greatest (at_ℤ entry j) (P j) (at_ℤ exit j)

-- an entry of a table without an entry beyond
pub bounded_small : (xs : List ℤ) → Bounded 536870911 xs → (j : ℕ) → small (at_ℤ xs j) ≡ true
unfolding Bounded small
bounded_small xs h j = le-leb (nat_abs (at_ℤ xs j)) 536870911 (h j)

-- ---- one pass over the entries

-- the entries below i are raised, and those from i on are as they were
pub record Passed (P : ℕ → ℤ → Type 0) (entry : List ℤ) (i : ℕ) (run : List ℤ) : Type 0 where
  pub size : length run ≡ length entry
  pub done : (j : ℕ) → j < i → Greatest (at_ℤ entry j) (P j) (at_ℤ run j)
  pub left : (j : ℕ) → i ≤ j → at_ℤ run j ≡ at_ℤ entry j

module _ {P : ℕ → ℤ → Type 0} {entry : List ℤ} where
  pub passed_none : Passed P entry 0 entry
  passed_none = record { size = refl; done = λ j h. absurd (none j h); left = λ j h. refl }
    where
      none : (j : ℕ) → j < 0 → ⊥
      none j h = omega arith

  pub passed_more : {i : ℕ} {run : List ℤ} {v : ℤ} → i < length entry → Passed P entry i run → Greatest (at_ℤ run i) (P i) v → Passed P entry (i + 1) (set run i v)
  passed_more {i} {run} {v} inside p g =
      record { size = length-set run i v ∙ p.size; done = λ j h. go j (less j h); left = λ j h. get_or-set_other run i j v (pos 0) (above j h) ∙ p.left j (after j h) }
    where
      less : (j : ℕ) → j < i + 1 → j ≤ i
      less j h = omega arith

      above : (j : ℕ) → i + 1 ≤ j → j ≡ i → ⊥
      above j h e = omega arith

      after : (j : ℕ) → i + 1 ≤ j → i ≤ j
      after j h = omega arith

      below : (j : ℕ) → j < i → j ≡ i → ⊥
      below j h e = omega arith

      stored : at_ℤ (set run i v) i ≡ v
      stored = get_or-set_same run i v (pos 0) (omega (arith, p.size))

      here : Greatest (at_ℤ entry i) (P i) (at_ℤ (set run i v) i)
      here = rw (stored, ← p.left i (le_refl i)) g

      go : (j : ℕ) → j ≤ i → Greatest (at_ℤ entry j) (P j) (at_ℤ (set run i v) j)
      go j h =
          ⊎_elim (λ (q : j ≡ i). subst (λ (k : ℕ). Greatest (at_ℤ entry k) (P k) (at_ℤ (set run i v) k)) (sym q) here)
          (λ l. subst (λ (x : ℤ). Greatest (at_ℤ entry j) (P j) x) (sym (get_or-set_other run i j v (pos 0) (below j l))) (p.done j l))
          (eq-or-lt_of_le h)

  pub passed_all : {i : ℕ} {run : List ℤ} → length entry ≤ i → Passed P entry i run → Raised P entry run
  passed_all {i} h p = record { size = p.size; each = λ j l. p.done j (inside j l) }
    where
      inside : (j : ℕ) → j < length entry → j < i
      inside j l = omega arith

-- ---- an empty run

-- every entry of a run became UNPLAYABLE
pub record Cleared (entry exit : List ℤ) : Type 0 where
  pub size : length exit ≡ length entry
  pub each : (j : ℕ) → j < length entry → at_ℤ exit j ≡ unplayable

-- ---- one raise after another

pub raised_none : {P : ℕ → ℤ → Type 0} (run : List ℤ) → ((j : ℕ) (v : ℤ) → P j v → ⊥) → Raised P run run
raised_none run none = record { size = refl; each = λ j h. greatest_none (at_ℤ run j) (none j) }

-- an entry's values in other words
pub raised_by : {P Q : ℕ → ℤ → Type 0} {a b : List ℤ} → ((j : ℕ) → j < length a → (x y : ℤ) → Greatest x (P j) y → Greatest x (Q j) y) → Raised P a b → Raised Q a b
raised_by same r = record { size = r.size; each = λ j h. same j h _ _ (r.each j h) }

pub raised_join : {P Q R : ℕ → ℤ → Type 0} {a b c : List ℤ} → ((j : ℕ) (v : ℤ) → R j v → P j v ⊎ Q j v) → ((j : ℕ) (v : ℤ) → P j v → R j v) → ((j : ℕ) (v : ℤ) → Q j v → R j v) → Raised P a b → Raised Q b c → Raised R a c
raised_join {a = a} {b} cover left right r s =
    record { size = s.size ∙ r.size; each = λ j h. greatest_join (cover j) (left j) (right j) (r.each j h) (s.each j (inside j h)) }
  where
    inside : (j : ℕ) → j < length a → j < length b
    inside j h = omega (arith, r.size)

-- one turn more of a loop
pub raised_more : {T : ℕ → ℕ → ℤ → Type 0} {k : ℕ} {a b c : List ℤ} → Raised (λ j. Below (T j) k) a b → Raised (λ j. T j k) b c → Raised (λ j. Below (T j) (k + 1)) a c
raised_more {T} {k} {a} {b} r s =
    record { size = s.size ∙ r.size; each = λ j h. below_more ℤ-order (T j) k (r.each j h) (s.each j (inside j h)) }
  where
    inside : (j : ℕ) → j < length a → j < length b
    inside j h = omega (arith, r.size)

-- ---- the walk: an entry of the run is a walk of its own, with as many tallies more before what a's side has

-- the end of a walk
pub raised_worth : (a b : List ℤ) (n s w z x : ℕ) {at to : ℕ} {entry exit : List ℤ} → at ≡ start n s + w → to ≡ start n z + x
    → Raised (λ j v. v ≡ guarded (at_ℤ a (at + j)) (at_ℤ b to)) entry exit → Raised (λ j v. v ≡ worth_at a b n s (w + j) z x) entry exit
unfolding worth_at
raised_worth a b n s w z x {at} {to} p q r = raised_by (λ j h e v g. subst (λ (u : ℤ). Greatest e (λ y. y ≡ u) v) (same j) g) r
  where
    place : (j : ℕ) → at + j ≡ start n s + (w + j)
    place j = omega arith

    same : (j : ℕ) → guarded (at_ℤ a (at + j)) (at_ℤ b to) ≡ guarded (at_ℤ a (start n s + (w + j))) (at_ℤ b (start n z + x))
    same j = λ i. guarded (at_ℤ a (place j i)) (at_ℤ b (q i))

module _ (a b : List ℤ) (t : List ℕ) (s w z x : ℕ) {entry exit : List ℤ} where
  -- letters that are not there
  pub raised_up : {j i : ℕ} → j ≤ i → i ≤ length t → Absent t j i → Raised (λ k. Worths a b (length t) (take j t) (length t - j) s (w + k) z x) entry exit
      → Raised (λ k. Worths a b (length t) (take i t) (length t - i) s (w + k) z x) entry exit
  raised_up h l none r = raised_by (λ k below e v g. skip_up a b t s (w + k) z x h l none g) r

  -- where none of the first i letters is there, each entry has one split
  pub raised_end : {i : ℕ} → i ≤ length t → present (take i t) ≡ 0 → Raised (λ k v. v ≡ worth_at a b (length t) s (w + k) z x) entry exit
      → Raised (λ k. Worths a b (length t) (take i t) (length t - i) s (w + k) z x) entry exit
  raised_end l none r = raised_by (λ k below e v g. end_one a b t s (w + k) z x l none g) r

pub turns_start : (a b : List ℤ) (n : ℕ) (t : List ℕ) (c m s w z x : ℕ) (run : List ℤ) → Raised (λ j. Turns a b n t c m s (w + j) z x 0) run run
turns_start a b n t c m s w z x run = raised_none run (λ j v h. none h.0 h.1)
  where
    none : (k : ℕ) → k < 0 → ⊥
    none k l = omega arith

-- what the walk asks of a run of so many entries, in all of which a's side has the same tiles: what it asks at the last
pub record RunReady (a b : List ℤ) (t : List ℕ) (i s w z x size : ℕ) : Type 0 where
  pub last : Ready a b t i s (w + (size - 1)) z x
  pub entries : 0 < size
  pub a_bound : Bounded 536870911 a
  pub b_bound : Bounded 536870911 b

module _ {a b : List ℤ} {t : List ℕ} {i s w z x size : ℕ} (ready : RunReady a b t i s w z x size) where
  entry_ready : (j : ℕ) → j < size → Ready a b t i s (w + j) z x
  entry_ready j h =
      let r = ready.last in
      record {
        letters = r.letters;
        few = r.few;
        tiles = r.tiles;
        played = omega (arith, r.played);
        kept = r.kept;
        in_sheet = r.in_sheet;
        in_leave = r.in_leave;
      }

  -- from i letters to j, where no letter between is there
  pub run_down : {j : ℕ} → j ≤ i → Absent t j i → RunReady a b t j s w z x size
  run_down h none = record { last = skip_down a b t s (w + (size - 1)) z x h none ready.last; entries = ready.entries; a_bound = ready.a_bound; b_bound = ready.b_bound }

  module _ (some : i ≡ 0 → ⊥) {c : ℕ} (counted : c ≡ get_or t (i - 1) 0) where
    module _ {y v u : ℕ} (below : y ≤ c) (played : v ≡ w + step (length t - i) (s + y) y) (kept : u ≡ x + step (length t - i) (z + (c - y)) (c - y)) where
      -- the call of the turn at y
      pub run_next : {k : ℕ} → k ≡ size → RunReady a b t (i - 1) (s + y) v (z + (c - y)) u k
      run_next {k} e = record { last = ready_next ready.last some counted below (omega arith) kept; entries = omega (arith, ready.entries); a_bound = ready.a_bound; b_bound = ready.b_bound }

      -- what it gives, as the turn's values
      pub run_turn : {entry exit : List ℤ} → length entry ≡ size → Raised (λ j. Worths a b (length t) (take (i - 1) t) (length t - (i - 1)) (s + y) (v + j) (z + (c - y)) u) entry exit
          → Raised (λ j. Turn a b (length t) (take (i - 1) t) c (length t - i) s (w + j) z x y) entry exit
      run_turn {entry} e r = raised_by (λ j h p q g. turn_next (entry_ready j (inside j h)) some counted below (more j) kept g) r
        where
          inside : (j : ℕ) → j < length entry → j < size
          inside j h = omega arith

          more : (j : ℕ) → v + j ≡ w + j + step (length t - i) (s + y) y
          more j = omega arith

    -- all turns are done
    pub run_done : (k : ℕ) {entry exit : List ℤ} → k ≡ suc c → length entry ≡ size → Raised (λ j. Turns a b (length t) (take (i - 1) t) c (length t - i) s (w + j) z x k) entry exit
        → Raised (λ j. Worths a b (length t) (take i t) (length t - i) s (w + j) z x) entry exit
    run_done k {entry} e l r = raised_by (λ j h p q g. walk_done (entry_ready j (inside j h)) some counted k e g) r
      where
        inside : (j : ℕ) → j < length entry → j < size
        inside j h = omega arith

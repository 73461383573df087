-- What a call of apportion_table answers, for every input, and what it leaves in the two tables. Assumes nothing.
use Rattle.std.specs.Prelude.{◌≡◌, true, List, map, ℕ, ◌+◌, ◌*◌, ◌^◌, ◌≤◌, max, ℤ, pos, Float, length, get_or}
use Rattle.std.proofs.Common.{arith}
use Rattle.std.specs.Float.{nan}
use Rattle.laws.specs.Integer.{at_ℤ}
use Rattle.laws.specs.Sums.{select}
use Rattle.whole.specs.Whole.{whole}
use Rattle.binomials.specs.Binomial.{binomial}
use Rattle.lattice.specs.Tally.{total, tallies, rank_of}
use Rattle.lattice.specs.Rank.{AtMost}
use Rattle.lattice.specs.Answers.{served}
use Rattle.hands.specs.Hands.{holds, hand_sum, hand_count}
use Rattle.sums.specs.Weight.{largest, Clear}

-- a rack's best, by its rank
abbrev pub best_at : ℕ → List ℤ → List ℕ → ℤ
best_at n best t = at_ℤ best (rank_of n t)

-- ---- what each refusal is about

-- 2: the lengths of the slices
pub record Sized (n r : ℕ) (best : List ℤ) (pool : List ℕ) (num den : List Float) : Type 0 where
  pub bests : length best ≡ binomial (n + r) n
  pub letters : length pool ≡ n
  pub nums : length num ≡ binomial (n + r) n
  pub dens : length den ≡ binomial (n + r) n

-- M: the largest absolute best over the full racks that can be drawn, and at least 16
abbrev pub most_best : ℕ → ℕ → List ℤ → List ℕ → ℕ
most_best n r best pool = max 16 (largest (map (best_at n best) (select (holds pool) (tallies n r))))

-- 9: W × M is at most 2 ^ 53, where W is C(tiles in pool, r)
pub record Limit (n r : ℕ) (best : List ℤ) (pool : List ℕ) : Type 0 where
  pub within : binomial (total pool) r * most_best n r best pool ≤ 2 ^ 53

-- the lowest number whose condition fails, and 0 where none does
pub data Verdict (A B C D : Type 0) : ℕ → Type 0 where
  sizes : (A → ⊥) → Verdict A B C D 1
  lengths : A → (B → ⊥) → Verdict A B C D 2
  entries : A → B → (C → ⊥) → Verdict A B C D 8
  limits : A → B → C → (D → ⊥) → Verdict A B C D 9
  accepted : A → B → C → D → Verdict A B C D 0

-- a number of 0 is that of an accepted call
pub accepted_of : {A B C D : Type 0} {k : ℕ} → Verdict A B C D k → k ≡ 0 → A × B × C × D
accepted_of (sizes _) e = absurd (omega arith)
accepted_of (lengths _ _) e = absurd (omega arith)
accepted_of (entries _ _ _) e = absurd (omega arith)
accepted_of (limits _ _ _ _) e = absurd (omega arith)
accepted_of (accepted a b c d) e = (a, b, c, d)

-- ---- what an accepted call leaves

-- at each multiset num has the sum of the bests of the hands that hold it, and den their number; 0 is +0.0
pub record Filled (n r : ℕ) (best : List ℕ → ℤ) (pool : List ℕ) (num den : List Float) : Type 0 where
  pub nums : length num ≡ binomial (n + r) n
  pub dens : length den ≡ binomial (n + r) n
  pub sum : (m : List ℕ) → AtMost n r m → get_or num (rank_of n m) nan ≡ whole (hand_sum pool r best m)
  pub count : (m : List ℕ) → AtMost n r m → get_or den (rank_of n m) nan ≡ whole (pos (hand_count pool r m))

pub record Apportioned (n r : ℕ) (best : List ℤ) (pool : List ℕ) (num den : List Float) (answer : ℕ) (num' den' : List Float) : Type 0 where
  pub answered : Verdict (served n r ≡ true) (Sized n r best pool num den) (Clear num × Clear den) (Limit n r best pool) answer
  pub untouched : (answer ≡ 0 → ⊥) → (num' ≡ num) × (den' ≡ den)
  pub filled : answer ≡ 0 → Filled n r (best_at n best) pool num' den'

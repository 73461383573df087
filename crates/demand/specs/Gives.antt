-- What each road's contract gives of an accepted call: sums over hands of bests that are the best splits at the racks that can be drawn. Assumes nothing.
use Rattle.std.specs.Prelude.{◌≡◌, List, ℕ, ◌*◌, ◌^◌, ◌≤◌, ◌<◌, T, Float, ℤ, pos, nat_abs, length, get_or}
use Rattle.std.specs.Float.{nan}
use Rattle.whole.specs.Whole.{whole}
use Rattle.binomials.specs.Binomial.{binomial}
use Rattle.lattice.specs.Tally.{total, rank_of}
use Rattle.lattice.specs.Tallies.{Fits}
use Rattle.hands.specs.Hands.{holds, hand_sum, hand_count}
use Rattle.search.specs.Split.{best_split}
use Rattle.demand.specs.Demand.{Board}

-- num and den have each leave's sum and count, for a best of each rack that is the best split where it can be drawn; no best is above most in size, and
-- all hands times most are at most 2 ^ 53
pub record Gives (b : Board) (num den : List Float) : Type 0 where
  pub letters : length b.pool ≡ b.n
  pub best : List ℕ → ℤ
  pub is_split : (R : List ℕ) → Fits b.n b.r R → T (holds b.pool R) → best R ≡ best_split b.sheet b.leave b.n R
  pub sum : (m : List ℕ) → length m ≡ b.n → total m < b.r → get_or num (rank_of b.n m) nan ≡ whole (hand_sum b.pool b.r best m)
  pub count : (m : List ℕ) → length m ≡ b.n → total m < b.r → get_or den (rank_of b.n m) nan ≡ whole (pos (hand_count b.pool b.r m))
  pub most : ℕ
  pub some : 1 ≤ most
  pub within : (R : List ℕ) → Fits b.n b.r R → T (holds b.pool R) → nat_abs (best R) ≤ most
  pub limit : binomial (total b.pool) b.r * most ≤ 2 ^ 53

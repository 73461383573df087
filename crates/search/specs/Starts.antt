-- Where the tallies of each size begin, as a list. Assumes nothing.
use Rattle.std.specs.Prelude.{◌≡◌, List, ℕ, ◌+◌, ◌≤◌, ◌<◌, length, get_or, set}
use Rattle.std.proofs.Common.{◌∙◌, arith, get_or-set_same, get_or-set_other}
use Rattle.std.proofs.Math.Decide.{ℕ_discrete}
use Rattle.lattice.specs.Tally.{start}

-- the starts of the sizes up to 15 tiles
pub record Starts (starts : List ℕ) (n : ℕ) : Type 0 where
  pub each : (s : ℕ) → s ≤ 15 → get_or starts s 0 ≡ start n s

-- a list that is right below k, and has the right entry at k
pub set_below : (xs : List ℕ) (k x : ℕ) (f : ℕ → ℕ) → k < length xs → x ≡ f k → ((j : ℕ) → j < k → get_or xs j 0 ≡ f j) → (j : ℕ) → j < k + 1 → get_or (set xs k x) j 0 ≡ f j
set_below xs k x f l e h j m = by (ℕ_discrete j k)
  where
    by : Dec (j ≡ k) → get_or (set xs k x) j 0 ≡ f j
    by (yes q) = rw q (get_or-set_same xs k x 0 l ∙ e)
    by (no q) = get_or-set_other xs k j x 0 q ∙ h j (omega arith)

-- What guards the sums: the largest entry of a table, and tables that are clear. Assumes nothing.
use Rattle.std.specs.Prelude.{◌≡◌, List, [], ◌∷◌, ℕ, ◌<◌, max, Float, ℤ, pos, nat_abs, length, get_or}
use Rattle.std.specs.Float.{nan}
use Rattle.whole.specs.Whole.{whole}

-- the largest absolute entry of a table
unfoldable pub largest : List ℤ → ℕ
largest [] = 0
largest (z ∷ zs) = max (nat_abs z) (largest zs)

-- every entry is +0.0
abbrev pub Clear : List Float → Type 0
Clear xs = (k : ℕ) → k < length xs → get_or xs k nan ≡ whole (pos 0)

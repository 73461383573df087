-- The fold's passes over a table in rank order: what the last pass leaves. Assumes nothing.
use Rattle.std.specs.Prelude.{◌≡◌, true, cond, List, ℕ, ◌<◌, replicate}
use Rattle.laws.specs.Sums.{Additive, sum_in}
use Rattle.lattice.specs.Tally.{tallies}
use Rattle.hands.specs.Hands.{holds}
use Rattle.hands.proofs.Fold.{partial_end}
use Rattle.hands.specs.Pass.{Ranking, table}

module _ (𝓜 : Additive) (n r : ℕ) (g : List ℕ → 𝓜.Carrier) (tally_at : ℕ → List ℕ) where
  module _ {leaves size : ℕ} {up : ℕ → ℕ → ℕ} (ρ : Ranking n r leaves size tally_at up) where
    -- after the last pass: the sum over the racks that hold the multiset
    pub table_end : (k : ℕ) → k < size → table 𝓜 n r g tally_at (replicate n true) k ≡ sum_in 𝓜 (tallies n r) (λ t. cond (holds t (tally_at k)) (g t) 𝓜.none)
    table_end k h = partial_end 𝓜 n r g (tally_at k) (ρ.letters k h)

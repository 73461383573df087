-- The tables that the passes end in are filled. Assumes nothing.
use Rattle.std.specs.Prelude.{◌≡◌, true, Float, ℤ, pos, ◌*ℤ◌, length, replicate}
use Rattle.std.proofs.Math.Path.{sym, ap}
use Rattle.std.proofs.Common.{◌∙◌}
use mathlib.Core.List.{List}
use Prim.Native.Nat.{ℕ, ◌+◌}
use Rattle.laws.specs.Sums.{integers}
use Rattle.whole.specs.Whole.{whole}
use Rattle.binomials.specs.Binomial.{binomial}
use Rattle.hands.specs.Hands.{ways}
use Rattle.hands.proofs.Hands.{hand_sum_cond}
use Rattle.hands.specs.Fold.{partial_pos}
use Rattle.hands.proofs.Fold.{partial_end, partial_hand_count}
use Rattle.table_sums.specs.Table.{Filled}
use Rattle.table_sums.specs.Passes.{Summed}

module _ (pool : List ℕ) (r : ℕ) where
  abbrev n : ℕ
  n = length pool

  pub filled_of : (best : List ℕ → ℤ) {num den : List Float} → length num ≡ binomial (n + r) n → length den ≡ binomial (n + r) n → Summed n r (λ (t : List ℕ). pos (ways pool t) *ℤ best t) num → Summed n r (λ (t : List ℕ). pos (ways pool t)) den → Filled n r best pool num den
  filled_of best a b s c = record {
    nums = a;
    dens = b;
    sum = λ m l. s.at m l ∙ ap whole (sym (hand_sum_cond pool r best m));
    count = λ m l. c.at m l ∙ ap whole (sym (partial_end integers n r (λ (t : List ℕ). pos (ways pool t)) m l.letters) ∙ sym (partial_pos n r (ways pool) (replicate n true) m) ∙ ap pos (partial_hand_count pool r m l.letters));
  }

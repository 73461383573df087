-- What accepted calls give, for the layers above: the two searches of one rack agree. Assumes nothing.
use Rattle.std.specs.Prelude.{◌≡◌, List, ℕ, ℤ, length, Result}
use Rattle.std.proofs.Common.{sym, ◌∙◌}
use Rattle.std.proofs.Math.Path.{ap}
use Rattle.whole.specs.Mean.{unplayable}
use Rattle.search.specs.Split.{best_split}
use Rattle.search.specs.Refusals.{or_else, entries_number, rack_number, naive_number, sizes_same}
use Rattle.search.specs.Answers.{given, best_number, best_value, Answered, move_number, move_value, refusal, Played}
use Rattle.search.specs.declared.calls.Play.{Play}
use Rattle.refusal.specs.declared.Refusal.{Refusal}

module _ {n r : ℕ} {sheet leave : List ℤ} {t entry exit : List ℕ} {b : Result Play Refusal} (h : Played n r sheet leave t entry b exit) where
  same_refusal : length entry ≡ n → refusal n r sheet leave t entry ≡ rack_number n r sheet leave t
  unfolding rack_number naive_number
  same_refusal l = ap (λ (k : ℕ). or_else k (entries_number sheet leave n t)) (sym (sizes_same n r (length sheet) (length leave) t (length entry) l))

  -- the two searches of one rack agree, where the slice for the kept tally has n counts
  pub searches_agree : {a : Result ℤ Refusal} → Answered (rack_number n r sheet leave t) (best_split sheet leave n t) a → length entry ≡ n → (move_number b ≡ best_number a) × (move_value b ≡ best_value a)
  searches_agree a l = (
    h.numbered ∙ same_refusal l ∙ sym a.numbered,
    h.valued ∙ ap (λ (k : ℕ). given k (best_split sheet leave n t) unplayable) (same_refusal l) ∙ sym a.valued,
  )

use Rattle.std.specs.Prelude.{◌≡◌, ℕ, ◌+◌, ◌-◌, ◌<◌, ◌≤◌, List, [], ◌∷◌, ◌++◌, Vec, vec_len}
use Rattle.std.specs.Global.{Global}
use Rattle.cases.specs.declared.reading.Reading.{Reading}
use Rattle.cases.specs.declared.reading.Reading.TheVariants.{Between, Within, Ended}
use Rattle.cases.specs.declared.reading.TheConstants.{MOST_KEPT}
use Rattle.cases.specs.Word.{IsNatural, Says}

-- the numbers of a record are those that came and the word's, which is the last that is wanted; of
-- a record of more than MOST_KEPT numbers they are the first
abbrev pub Completes : Reading → List ℕ → Vec ℕ Global → Type 0
Completes Between _ _ = ⊥
Completes (Within wanted before) word numbers =
    (vec_len before < MOST_KEPT → (n : ℕ) × Says n word × (numbers.items ≡ before.items ++ n ∷ []))
    × (MOST_KEPT ≤ vec_len before → numbers.items ≡ before.items)
    × (wanted ≤ vec_len before + 1)
Completes Ended _ _ = ⊥

-- how many numbers are kept
abbrev pub kept : Reading → ℕ
kept Between = 0
kept (Within _ numbers) = vec_len numbers
kept Ended = 0

-- so far the list is read after a word that completes no record: a head has no minus
abbrev pub Continues : Reading → List ℕ → Reading → Type 0
Continues Between _ Between = ⊥
Continues Between word (Within wanted numbers) =
    IsNatural wanted word × (2 ≤ wanted) × (numbers.items ≡ [])
Continues Between word Ended = Says 0 word
Continues (Within _ _) _ Between = ⊥
Continues (Within before_wanted before) word (Within wanted numbers) =
    (vec_len before < MOST_KEPT → (wanted ≡ before_wanted)
    × (n : ℕ) × Says n word × (numbers.items ≡ before.items ++ n ∷ []))
    × (MOST_KEPT ≤ vec_len before
    → (wanted ≡ before_wanted - 1) × (numbers.items ≡ before.items))
    × (vec_len numbers < wanted)
Continues (Within _ _) _ Ended = ⊥
Continues Ended _ Between = ⊥
Continues Ended _ (Within _ _) = ⊥
Continues Ended _ Ended = ⊥

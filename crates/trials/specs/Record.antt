use Rattle.std.specs.Prelude.{◌≢◌, ℕ, ◌≤◌, List, [], ◌∷◌}
use Rattle.cases.specs.declared.call.Call.{Call}
use Rattle.cases.specs.Call.{number_of}

-- the numbers of a record whose source is 0 or 1, and whose own number is that of no call
abbrev pub NamesNoCall : List ℕ → Type 0
NamesNoCall (number ∷ source ∷ _) = (source ≤ 1) × ((call : Call) → number_of call ≢ number)
NamesNoCall (_ ∷ []) = ⊥
NamesNoCall [] = ⊥

-- the numbers of a record that gives a list
abbrev pub GivesList : List ℕ → Type 0
GivesList (number ∷ _) = (2 ≤ number) × (number ≤ 5)
GivesList [] = ⊥

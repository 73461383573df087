use Rattle.std.specs.Prelude.{◌≡◌, ℕ, List, Option, Some}
use Rattle.std.specs.List.{AllZip}

-- these are the numbers of these values, place by place
abbrev pub AreNumbersOf : {T : Type 0} → (T → Option ℕ) → List ℕ → List T → Type 0
AreNumbersOf number_of numbers values = AllZip (λ n v. number_of v ≡ Some n) numbers values

-- Which words of a list are numbers, and what number each says.
use Rattle.std.specs.Prelude.{◌≡◌, ℕ, ◌+◌, ◌%◌, ◌^◌, ◌<◌, ◌≤◌, ◌⊎◌, ◌↔◌, List, [], ◌∷◌, ◌++◌}
use Rattle.std.specs.Str.Parse.{IsNumeral, digits_value}

-- the digits write n, which has 64 bits at most
abbrev pub IsNatural : ℕ → List ℕ → Type 0
IsNatural n digits = IsNumeral 10 digits × (digits_value 10 digits ≡ n) × (n < 2 ^ 64)

-- n is the two's complement in 64 bits of a number below 0, or is 0: the digits follow its minus
abbrev pub IsNegated : ℕ → List ℕ → Type 0
IsNegated n digits = (magnitude : ℕ) × IsNatural magnitude digits × (magnitude ≤ 2 ^ 31)
    × ((n + magnitude) % 2 ^ 64 ≡ 0) × (n < 2 ^ 64)

-- the word is a number, which is n in 64 bits
abbrev pub Says : ℕ → List ℕ → Type 0
Says n [] = ⊥
Says n (byte ∷ more) = IsNatural n (byte ∷ more) ⊎ ((byte ≡ 45) × IsNegated n more)

-- whatever bytes follow, both say the same
abbrev pub SaysTheSame : List ℕ → List ℕ → Type 0
SaysTheSame word other = (n : ℕ) (more : List ℕ) → Says n (word ++ more) ↔ Says n (other ++ more)

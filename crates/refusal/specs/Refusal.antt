-- The number of a refusal, and of a call's answer. Assumes nothing.
use Rattle.std.specs.Prelude.{◌≡◌, refl, ℕ, Result, Ok, Err}
use Rattle.std.proofs.Common.{◌∙◌, ap, arith, cond, nat_eq, sym}
use Rattle.refusal.specs.declared.Refusal.{Refusal}
use Rattle.refusal.specs.declared.Refusal.TheVariants.{Sizes, Length, Letter, Range, Entry, Ranks, Scatter, NotClear, Weight}

-- the number of a refusal: the tests of a call are made in the order of these numbers
abbrev pub code_of : Refusal → ℕ
code_of Sizes = 1
code_of Length = 2
code_of Letter = 3
code_of Range = 4
code_of Entry = 5
code_of Ranks = 6
code_of Scatter = 7
code_of NotClear = 8
code_of Weight = 9

-- which is not 0
pub code_some : (refusal : Refusal) → code_of refusal ≡ 0 → ⊥
code_some Sizes z = omega arith
code_some Length z = omega arith
code_some Letter z = omega arith
code_some Range z = omega arith
code_some Entry z = omega arith
code_some Ranks z = omega arith
code_some Scatter z = omega arith
code_some NotClear z = omega arith
code_some Weight z = omega arith

-- the refusal of a number
abbrev refusal_of : ℕ → Refusal
refusal_of n = cond (nat_eq n 1) Sizes (cond (nat_eq n 2) Length (cond (nat_eq n 3) Letter (cond (nat_eq n 4) Range (cond (nat_eq n 5) Entry (cond (nat_eq n 6) Ranks (cond (nat_eq n 7) Scatter (cond (nat_eq n 8) NotClear Weight)))))))

refusal_again : (refusal : Refusal) → refusal_of (code_of refusal) ≡ refusal
refusal_again Sizes = refl
refusal_again Length = refl
refusal_again Letter = refl
refusal_again Range = refl
refusal_again Entry = refl
refusal_again Ranks = refl
refusal_again Scatter = refl
refusal_again NotClear = refl
refusal_again Weight = refl

-- a number is that of one refusal alone
pub code_one : (a b : Refusal) → code_of a ≡ code_of b → a ≡ b
code_one a b same = sym (refusal_again a) ∙ ap refusal_of same ∙ refusal_again b

-- the number of an answer: 0 where the call is accepted
abbrev pub number_of : {A : Type 0} → Result A Refusal → ℕ
number_of (Ok v) = 0
number_of (Err refusal) = code_of refusal

-- an accepted call that only writes answers Ok
pub accepted_is : (answer : Result Unit Refusal) → number_of answer ≡ 0 → answer ≡ Ok tt
accepted_is (Ok v) z = refl
accepted_is (Err refusal) z = absurd (code_some refusal z)

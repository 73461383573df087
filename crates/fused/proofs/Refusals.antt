-- Laws that the proof of the outward call cites. Assumes nothing.
use Rattle.std.proofs.Common.{◌≡◌, ℕ, refl}
use Rattle.fused.specs.Answer.{Input, Lent, FusedNumber, Filled, Fused}

-- a refused call leaves the slices as they are
pub refused : {g : Input} {o : Lent} {k : ℕ} → FusedNumber g o k → (k ≡ 0 → ⊥) → Fused g o k o
refused a f = record { answered = a; untouched = λ _. refl; filled = λ e. absurd (f e) }

-- an accepted call does its work
pub accepts : {g : Input} {o o' : Lent} → FusedNumber g o 0 → Filled g o o' → Fused g o 0 o'
accepts a f = record { answered = a; untouched = λ k. absurd (k refl); filled = λ _. f }

-- The part of a letter told by where it starts and how many entries it has. Assumes nothing.
use mathlib.Core.Path.{◌≡◌, refl, sym, ap, ◌∙◌, subst}
use mathlib.Core.List.{List, []}
use mathlib.Core.Logic.{inl, inr}
use Prim.Native.Nat.{ℕ, zero, suc, ◌+◌, ◌*◌, ◌≤◌, ◌<◌}
use native.Mathlib.Nat.{add-mul, mul-le-mul_right}
use native.Mathlib.Omega.{arith}
use lib.ListN.{length, take, drop, length-take, length-drop}
use lib.Seq.{take_all, length-take-le}
use Rattle.lattice.specs.Tally.{start}
use Rattle.lattice.specs.TableCalls.{LettersOrNone, LetterNumber, LetterPart}
use Rattle.lattice.specs.TableCalls.LetterNumber.{accepted}

-- a part that starts there and has so many entries
pub record PartAt (table part : List ℕ) (from size : ℕ) : Type 0 where
  pub inside : from + size ≤ length table
  pub is : part ≡ take size (drop from table)

empty : (xs : List ℕ) → length xs ≡ 0 → xs ≡ []
empty xs e = sym (take_all 0 xs (omega (arith, e)))

module _ (n r : ℕ) (table : List ℕ) (t : ℕ) where
  pub letter_none : {part : List ℕ} → LetterPart n r table t part → length part ≡ 0 → LetterPart n r table t []
  letter_none {part} p e = subst (LetterPart n r table t) (empty part e) p

  pub letter_some : {part : List ℕ} → LetterPart n r table t part → (length part ≡ 0 → ⊥) → PartAt table part (t * length part) (length part)
  letter_some {part} p some = go p.number p.answered p.given p.refused
    where
      whole : t < n → LettersOrNone n r table → part ≡ take (start n r) (drop (t * start n r) table) → PartAt table part (t * length part) (length part)
      whole h (inl e) is =
          absurd (some (ap length is ∙ omega (arith, length-take (start n r) (drop (t * start n r) table), length-drop (t * start n r) table, e)))
      whole h (inr letters) is =
          let room : (t + 1) * start n r ≤ n * start n r = mul-le-mul_right (start n r) (omega (arith, h)) in
          let size : length part ≡ start n r = ap length is ∙ length-take-le (start n r) (drop (t * start n r) table) (omega (arith, length-drop (t * start n r) table, letters.rows, room, add-mul t 1 (start n r))) in
          subst (λ (k : ℕ). PartAt table part (t * k) k) (sym size) (record { inside = omega (arith, letters.rows, room, add-mul t 1 (start n r)); is = is })

      go : (k : ℕ) → LetterNumber n r table t k → (k ≡ 0 → part ≡ take (start n r) (drop (t * start n r) table)) → ((k ≡ 0 → ⊥) → part ≡ []) → PartAt table part (t * length part) (length part)
      go zero (accepted s h letters) is none = whole h letters (is refl)
      go (suc k) a is none = absurd (some (ap length (none (λ e. omega (arith, e)))))

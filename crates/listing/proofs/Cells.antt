-- The lengths that the listing serves, from what a lattice answers.
use Rattle.std.proofs.Common.{◌≡◌, refl, ℕ, ◌+◌, ◌<◌, ◌≤◌, Bool, true, false, cond, sym, ap, ◌∙◌, arith, le-leb}
use borrow.Author.Tests.{lt-leb}
use Rattle.binomials.specs.Binomial.{binomial, positive}
use Rattle.std.specs.Prelude.{Ok, Err, IsOk}
use Rattle.refusal.specs.Refusal.{number_of, code_some}
use Rattle.refusal.specs.declared.Refusal.{Refusal}
use Rattle.refusal.specs.declared.Refusal.TheVariants.{Sizes}
use Rattle.lattice.specs.Answers.{Answer, served, len_answer}
use Rattle.lattice.specs.Numbers.{FullRackStart, value, or_none}
use Rattle.lattice.specs.Tally.{start}
use Rattle.lattice.specs.Served.{facts}
use Rattle.listing.specs.Sizes.{listed, cells_of, cells_served}
use Rattle.listing.proofs.Census.{start_given}

-- the start that a lattice gives, where the listing serves it
pub start_is : {n r : ℕ} {b : Answer} → 0 < cells_of n r → FullRackStart n r b → value b ≡ start n r
start_is {n} {r} some s = s.gives.valued ∙ ap (λ (k : ℕ). or_none k (start n r)) (start_given n r some)

-- and it is given
accepted : (b : Answer) → number_of b ≡ 0 → IsOk b
accepted (Ok v) z = refl
accepted (Err refusal) z = absurd (code_some refusal z)

pub start_ok : {n r : ℕ} (b : Answer) → 0 < cells_of n r → FullRackStart n r b → IsOk b
start_ok {n} {r} b some s = accepted b (s.gives.numbered ∙ start_given n r some)

module _ (n r : ℕ) where
  pub cells_refused : {answer : Answer} {k : Refusal} → answer ≡ len_answer n r → answer ≡ Err k → cells_of n r ≡ 0
  unfolding cells_of
  cells_refused e is = ap listed (sym e ∙ is)

  pub cells_long : {answer : Answer} {len : ℕ} → answer ≡ len_answer n r → answer ≡ Ok len → 512 < len → cells_of n r ≡ 0
  unfolding cells_of
  cells_long {len = len} e is h = ap listed (sym e ∙ is) ∙ simp (lt-leb len 512 h)

  pub cells_given : {answer : Answer} {len : ℕ} → answer ≡ len_answer n r → answer ≡ Ok len → len ≤ 512 → (len ≡ cells_of n r) × (0 < len) × (len ≤ 512)
  unfolding cells_of len_answer
  cells_given {len = len} e is h = (sym (ap listed (sym e ∙ is) ∙ simp (le-leb len 512 h)), go (served n r) (sym e ∙ is), h)
    where
      go : (t : Bool) → cond t (Ok (binomial (n + r) n)) (Err Sizes) ≡ Ok len → 0 < len
      go true q = let same : binomial (n + r) n ≡ len = cc in omega (arith, positive (n + r) n (omega arith))
      go false q = cc

  pub cells_letters : {answer : Answer} {len : ℕ} → answer ≡ len_answer n r → answer ≡ Ok len → len ≤ 512 → n ≤ 64
  cells_letters e is h = let some = cells_given e is h in (facts n r (cells_served n r (omega (arith, some.0, some.1))).sizes).letters

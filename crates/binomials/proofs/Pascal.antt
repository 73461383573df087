-- Pascal's rule over the table: one test that is computed over all of it, and the law that carries the test to each entry. Assumes nothing.
use Rattle.std.proofs.Common.{◌≡◌, ℕ, zero, suc, ◌+◌, ◌-◌, ◌*◌, ◌<◌, ◌≤◌, Bool, true, nat_eq, nat_lt, ltb-true, get_or, sym, refl, ◌∙◌, add_comm, eqb-true, arith}
use Rattle.std.proofs.lemmas.Bool.{agree_below, agree_below_at}
use Rattle.binomials.specs.Binomial.{binomial, symmetric, by_rule}
use Rattle.binomials.specs.declared.table.TheConstants.{BINOMIALS, FEWER}

abbrev at : ℕ → ℕ → ℕ
at p k = get_or BINOMIALS (p * 17 + k) 0

-- the first row and the first column are ones, and every other entry is the sum of the one above it and the one to its left
abbrev keeps : ℕ → ℕ → Bool
keeps zero k = nat_eq (at zero k) 1
keeps (suc p) zero = nat_eq (at (suc p) zero) 1
keeps (suc p) (suc k) = nat_eq (at (suc p) (suc k)) (at p (suc k) + at (suc p) k)

abbrev row_keeps : ℕ → Bool
row_keeps p = agree_below (keeps p) (λ k. true) 17

kept : agree_below row_keeps (λ p. true) 65 ≡ true
kept = refl

keeps_at : (p k : ℕ) → p ≤ 64 → k ≤ 16 → keeps p k ≡ true
keeps_at p k h l = agree_below_at (keeps p) (λ k. true) 17 k (agree_below_at row_keeps (λ p. true) 65 p kept (omega arith)) (omega arith)

top : (k : ℕ) → k ≤ 16 → at zero k ≡ 1
top k l = eqb-true _ _ (keeps_at zero k (omega arith) l)

first : (p : ℕ) → p ≤ 64 → at p zero ≡ 1
first zero h = top zero (omega arith)
first (suc p) h = eqb-true _ _ (keeps_at (suc p) zero h (omega arith))

-- C(k + p, p), as the contract has it, is what the rule makes
pub entry : (p k : ℕ) → p ≤ 64 → k ≤ 16 → at p k ≡ binomial (k + p) p
entry p k h l = by_rule at 64 16 first top (λ p k h l. eqb-true _ _ (keeps_at (suc p) (suc k) h l)) p k h l ∙ rw (add_comm k p) (sym (symmetric p k))

-- ---- the multisets of fewer tiles: none of fewer than none, and else the entry before, each small

abbrev fewer_at : ℕ → ℕ → ℕ
fewer_at p s = get_or FEWER (p * 16 + s) 0

abbrev follows : ℕ → ℕ → Bool
follows p zero = nat_eq (fewer_at p zero) 0
follows p (suc k) = nat_eq (fewer_at p (suc k)) (at p k)

abbrev row_follows : ℕ → Bool
row_follows p = agree_below (follows p) (λ s. true) 16

followed : agree_below row_follows (λ p. true) 64 ≡ true
followed = refl

follows_at : (p s : ℕ) → p < 64 → s < 16 → follows p s ≡ true
follows_at p s h l = agree_below_at (follows p) (λ s. true) 16 s (agree_below_at row_follows (λ p. true) 64 p followed h) l

pub fewer_none : (p s : ℕ) → p < 64 → s ≡ 0 → fewer_at p s ≡ 0
fewer_none p zero h e = eqb-true _ _ (follows_at p zero h (omega arith))
fewer_none p (suc k) h e = absurd (omega arith)

pub fewer_some : (p s : ℕ) → p < 64 → s < 16 → 1 ≤ s → fewer_at p s ≡ binomial (s - 1 + p) p
fewer_some p zero h l o = absurd (omega arith)
fewer_some p (suc k) h l o =
    let e : suc k - 1 ≡ k = omega arith in
    rw e (eqb-true _ _ (follows_at p (suc k) h l) ∙ entry p k (omega arith) (omega arith))

-- and each is small
abbrev small : ℕ → ℕ → Bool
small p s = nat_lt (fewer_at p s) 1125899906842624

abbrev row_small : ℕ → Bool
row_small p = agree_below (small p) (λ s. true) 16

all_small : agree_below row_small (λ p. true) 64 ≡ true
all_small = refl

pub fewer_small : (p s : ℕ) → p < 64 → s < 16 → fewer_at p s < 1125899906842624
fewer_small p s h l = ltb-true _ _ (agree_below_at (small p) (λ s. true) 16 s (agree_below_at row_small (λ p. true) 64 p all_small h) l)

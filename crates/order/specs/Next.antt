-- The tally that comes next in rank order, as ranks are ordered (docs/SCOPE.md, "Ranks"): by the number of tiles, and then letter 0 first. Assumes nothing.
use Rattle.std.specs.Prelude.{◌≡◌, refl, List, [], ◌∷◌, ℕ, zero, suc, ◌+◌, ◌≤◌, ◌<◌, length, get_or, drop}
use Rattle.std.proofs.Common.{sym, ap, ◌∙◌, suc-le-suc, zero-le, arith}
use Rattle.std.proofs.Math.Nat.{suc_inj}
use Rattle.lattice.specs.Tally.{total, rank_of, total_nil, total_cons}

-- y comes right after x
pub record Next (x y : List ℕ) : Type 0 where
  pub letters : length y ≡ length x
  pub rank : rank_of (length x) y ≡ suc (rank_of (length x) x)

-- ---- the tiles from each letter on

-- no letter from j on is there
pub none_after : (x : List ℕ) (j : ℕ) → ((k : ℕ) → j ≤ k → k < length x → get_or x k 0 ≡ 0) → total (drop j x) ≡ 0
none_after [] zero h = total_nil
none_after [] (suc j) h = total_nil
none_after (c ∷ cs) zero h =
    let a = h zero zero-le (omega arith) in
    let b = none_after cs zero (λ k l b. h (suc k) zero-le (suc-le-suc b)) in
    rw total_cons (omega arith)
none_after (c ∷ cs) (suc j) h = none_after cs j (λ k l b. h (suc k) (suc-le-suc l) (suc-le-suc b))

-- a tally is known by the tiles from each letter on
pub same_tails : (y z : List ℕ) → length y ≡ length z → ((k : ℕ) → k < length y → total (drop k y) ≡ total (drop k z)) → y ≡ z
same_tails [] [] e f = refl
same_tails [] (b ∷ z) e f = absurd (omega arith)
same_tails (a ∷ y) [] e f = absurd (omega arith)
same_tails (a ∷ y) (b ∷ z) e f =
    let rest : y ≡ z = same_tails y z (suc_inj e) (λ k h. f (suc k) (suc-le-suc h)) in
    let all : a + total y ≡ b + total z = sym (total_cons a y) ∙ f zero (omega arith) ∙ total_cons b z in
    let first : a ≡ b = omega (arith, ap total rest) in
    λ i. first i ∷ rest i

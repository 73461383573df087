-- The tallies that extend a tally by one tile of its last letter or of a later one, and their ranks, which follow each other. Assumes nothing.
use Rattle.std.specs.Prelude.{◌≡◌, refl, Bool, true, false, cond, List, [], ◌∷◌, map, ℕ, zero, suc, ◌+◌, ◌-◌, ◌≤◌, ◌<◌, T, eqb, length, get_or, drop}
use Rattle.std.proofs.Common.{sym, ap, ◌∙◌, not-suc-le-zero, le_of_suc-le-suc, add-zero, arith, eqb→eq}
use Rattle.std.proofs.Math.Decide.{dec_lt}
use Rattle.std.proofs.Math.Numerals.{unary_clauses}
use Rattle.laws.specs.Lists.{upto}
use Rattle.lattice.specs.Tally.{total, rank_of, add_tile, total_nil, total_cons, rank_is}
use Rattle.lattice.specs.Tallies.{count, count_zero, count_empty}
use Rattle.lattice.specs.Rank.{total_add_tile}
use Rattle.lattice.specs.AddRow.{more_next}

-- the letters up to the last one that a tally has, and at least one
unfoldable pub stop_of : List ℕ → ℕ
stop_of [] = zero
stop_of (c ∷ cs) = cond (eqb (total cs) 0) 1 (suc (stop_of cs))

-- one tile more of the letter that has i letters after it
abbrev pub extension : List ℕ → ℕ → List ℕ
extension t i = add_tile t (length t - 1 - i)

-- how many tallies extend a tally by a tile of its last letter or of a later one
abbrev pub extent : List ℕ → ℕ
extent t = suc (length t - stop_of t)

-- those tallies, by rank
unfoldable pub extensions : List ℕ → List (List ℕ)
extensions t = map (extension t) (upto (extent t))

-- ---- where the letters end

pub stop_cons : (c : ℕ) (cs : List ℕ) → stop_of (c ∷ cs) ≡ cond (eqb (total cs) 0) 1 (suc (stop_of cs))
unfolding stop_of
stop_cons c cs = refl

pub stop_low : (t : List ℕ) → 0 < length t → 1 ≤ stop_of t
stop_low [] h = absurd (not-suc-le-zero h)
stop_low (c ∷ cs) h = rw stop_cons (go (eqb (total cs) 0))
  where
    go : (b : Bool) → 1 ≤ cond b 1 (suc (stop_of cs))
    go true = omega arith
    go false = omega arith

pub stop_high : (t : List ℕ) → stop_of t ≤ length t
unfolding stop_of
stop_high [] = omega arith
stop_high (c ∷ cs) = go (eqb (total cs) 0) (stop_high cs)
  where
    go : (b : Bool) → stop_of cs ≤ length cs → cond b 1 (suc (stop_of cs)) ≤ suc (length cs)
    go true h = omega arith
    go false h = omega arith

no_tiles : (t : List ℕ) (j : ℕ) → total t ≡ 0 → get_or t j 0 ≡ 0
no_tiles [] j e = refl
no_tiles (c ∷ cs) zero e = let z : c + total cs ≡ 0 = sym (total_cons c cs) ∙ e in omega arith
no_tiles (c ∷ cs) (suc j) e = let z : c + total cs ≡ 0 = sym (total_cons c cs) ∙ e in no_tiles cs j (omega arith)

-- no tile stands after
pub stop_none : (t : List ℕ) (j : ℕ) → stop_of t ≤ j → get_or t j 0 ≡ 0
unfolding stop_of
stop_none [] j h = refl
stop_none (c ∷ cs) j h = go (eqb (total cs) 0) (eqb→eq (total cs) 0) (stop_none cs) j h
  where
    go : (b : Bool) → (T b → total cs ≡ 0) → ((i : ℕ) → stop_of cs ≤ i → get_or cs i 0 ≡ 0) → (i : ℕ) → cond b 1 (suc (stop_of cs)) ≤ i → get_or (c ∷ cs) i 0 ≡ 0
    go true e ih zero l = absurd (not-suc-le-zero l)
    go true e ih (suc i) l = no_tiles cs i (e tt)
    go false e ih zero l = absurd (not-suc-le-zero l)
    go false e ih (suc i) l = ih i (le_of_suc-le-suc l)

-- without tiles the letters end after the first
pub stop_first : (t : List ℕ) → total t ≡ 0 → stop_of t ≤ 1
unfolding stop_of
stop_first [] e = omega arith
stop_first (c ∷ cs) e =
    let z : c + total cs ≡ 0 = sym (total_cons c cs) ∙ e in
    let n : total cs ≡ 0 = omega arith in
    rw n (omega arith)

-- otherwise with one that is there
stop_there : (t : List ℕ) → 0 < total t → 0 < get_or t (stop_of t - 1) 0
unfolding stop_of
stop_there [] h = absurd (let z : total [] ≡ 0 = total_nil in omega arith)
stop_there (c ∷ cs) h = go (eqb (total cs) 0) (eqb→eq (total cs) 0) (λ e. rw e tt) (total_cons c cs) (stop_there cs) (stop_low cs)
  where
    shift : (k : ℕ) → 1 ≤ k → 0 < get_or cs (k - 1) 0 → 0 < get_or (c ∷ cs) (suc k - 1) 0
    shift zero l p = absurd (not-suc-le-zero l)
    shift (suc k) l p = simp unary_clauses (simp unary_clauses at p)

    some : (xs : List ℕ) → 0 < total xs → 0 < length xs
    some [] p = absurd (let z : total [] ≡ 0 = total_nil in omega arith)
    some (x ∷ xs) p = omega arith

    go : (b : Bool) → (T b → total cs ≡ 0) → (total cs ≡ 0 → T b) → total (c ∷ cs) ≡ c + total cs → (0 < total cs → 0 < get_or cs (stop_of cs - 1) 0) → (0 < length cs → 1 ≤ stop_of cs) → 0 < get_or (c ∷ cs) (cond b 1 (suc (stop_of cs)) - 1) 0
    go true e f s ih low = let z : total cs ≡ 0 = e tt in omega arith
    go false e f s ih low = elim (dec_lt 0 (total cs)) [ yes p ↦ shift (stop_of cs) (low (some cs p)) (ih p) | no p ↦ absurd (f (omega arith)) ]

-- the letter before the end has tiles, unless it is the first
pub stop_tile : (t : List ℕ) → 1 < stop_of t → get_or t (stop_of t - 1) 0 ≡ 0 → ⊥
stop_tile t h e = elim (dec_lt 0 (total t)) [ yes p ↦ (let q = stop_there t p in omega arith) | no p ↦ (let q = stop_first t (omega arith) in omega arith) ]

-- the letters end where one that is there is followed by none
pub stop_end : (t : List ℕ) (k : ℕ) → stop_of t ≤ k → (get_or t (k - 1) 0 ≡ 0 → ⊥) → 1 ≤ k → stop_of t ≡ k
stop_end t k h some l = elim (dec_lt (stop_of t) k) [ yes p ↦ absurd (some (stop_none t (k - 1) (omega arith))) | no p ↦ omega arith ]

-- and earlier where it is not there
pub stop_less : (t : List ℕ) (k : ℕ) → stop_of t ≤ k → 1 < k → get_or t (k - 1) 0 ≡ 0 → stop_of t ≤ k - 1
stop_less t k h l e = elim (dec_lt (stop_of t) k) [ yes p ↦ omega arith | no p ↦ absurd (let q : stop_of t ≡ k = omega arith in stop_tile t (omega arith) (ap (λ (j : ℕ). get_or t (j - 1) 0) q ∙ e)) ]

drop_none : (t : List ℕ) (j : ℕ) → total t ≡ 0 → total (drop j t) ≡ 0
drop_none t zero e = e
drop_none [] (suc j) e = e
drop_none (c ∷ cs) (suc j) e = let z : c + total cs ≡ 0 = sym (total_cons c cs) ∙ e in drop_none cs j (omega arith)

pub total_after : (t : List ℕ) (j : ℕ) → stop_of t ≤ j → total (drop j t) ≡ 0
unfolding stop_of
total_after [] zero h = total_nil
total_after [] (suc j) h = total_nil
total_after (c ∷ cs) j h = go (eqb (total cs) 0) (eqb→eq (total cs) 0) (total_after cs) j h
  where
    go : (b : Bool) → (T b → total cs ≡ 0) → ((i : ℕ) → stop_of cs ≤ i → total (drop i cs) ≡ 0) → (i : ℕ) → cond b 1 (suc (stop_of cs)) ≤ i → total (drop i (c ∷ cs)) ≡ 0
    go true e ih zero l = absurd (not-suc-le-zero l)
    go true e ih (suc i) l = drop_none cs i (e tt)
    go false e ih zero l = absurd (not-suc-le-zero l)
    go false e ih (suc i) l = ih i (le_of_suc-le-suc l)

-- ---- their ranks

count_none : (n : ℕ) → count n 0 ≡ 1
count_none zero = count_empty
count_none (suc n) = count_zero n ∙ count_none n

-- a tile of the letter before: one rank on
next_rank : (t : List ℕ) (k : ℕ) → suc k < length t → stop_of t ≤ suc k → rank_of (length t) (add_tile t k) ≡ suc (rank_of (length t) (add_tile t (suc k)))
next_rank t k h l =
    let i = more_next t k h in
    let a = total_add_tile t k (omega arith) in
    let b = total_add_tile t (suc k) h in
    let c : count (length (drop (suc k) t)) (total (drop (suc k) t)) ≡ 1 = ap (count (length (drop (suc k) t))) (total_after t (suc k) l) ∙ count_none (length (drop (suc k) t)) in
    rw (rank_is (length t) (add_tile t k), rank_is (length t) (add_tile t (suc k)), a, b) (omega arith)

-- the ranks of the tallies that extend t follow each other
pub extension_rank : (t : List ℕ) (i : ℕ) → 0 < length t → i < extent t → rank_of (length t) (extension t i) ≡ rank_of (length t) (extension t 0) + i
extension_rank t zero h l = sym (add-zero (rank_of (length t) (extension t 0)))
extension_rank t (suc i) h l =
    let k = length t - 1 - suc i in
    let low = stop_low t h in
    let high = stop_high t in
    let e : length t - 1 - i ≡ suc k = omega arith in
    let n : rank_of (length t) (add_tile t k) ≡ suc (rank_of (length t) (add_tile t (suc k))) = next_rank t k (omega arith) (omega arith) in
    let p : rank_of (length t) (extension t i) ≡ rank_of (length t) (add_tile t (suc k)) = ap (λ (j : ℕ). rank_of (length t) (add_tile t j)) e in
    omega (arith, extension_rank t i h (omega arith))

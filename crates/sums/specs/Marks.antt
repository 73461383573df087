-- What the walk over the parts of a leave leaves at an entry: for each rack that extends the leave its number, if the rack holds the multiset of that entry.
-- Assumes nothing.
use Rattle.std.specs.Prelude.{◌≡◌, refl, Bool, true, false, cond, T, eqb, Float, ℤ, pos, nat_abs, ◌+ℤ◌, length, get_or, set, take}
use Rattle.std.proofs.Math.Path.{sym, ap}
use Rattle.std.proofs.Common.{ap₂, ◌∙◌, subst, zero-add, add-zero, add_comm, eqb→eq, take-suc, get_or-set_same, get_or-set_other, lt-ltb, le-ltb}
use mathlib.Core.List.{List, [], ◌∷◌, ◌++◌}
use Prim.Native.Nat.{ℕ, zero, suc, ◌+◌, ◌-◌, ◌^◌, ◌≤◌, ◌<◌}
use Rattle.std.proofs.Math.Nat.{sub_self}
use native.Mathlib.Omega.{arith}
use Rattle.std.proofs.Math.Dec.{eqb_refl}
use Rattle.std.specs.Float.{nan, binary64}
use Rattle.std.specs.Float.Ieee.{add}
use Rattle.std.proofs.Math.IntN.{+ℤ_idl, +ℤ_idr, +ℤ_assoc}
use Rattle.std.proofs.Math.Seq.{take-length}
use Rattle.laws.specs.Lists.{upto, concat_map, upto_zero, upto_suc, concat_map_append, concat_map_one, concat_map_cong}
use Rattle.laws.specs.Every.{every_member, every_weaken, upto_below}
use Rattle.laws.specs.Sums.{Additive, sum_in, sum_over, sum_over_ℤ, sum_append, sum_map, sum_concat_map, sum_cong, sum_cong_on, sum_none, sum_plus, sum_swap, sum_upto_suc, plus_middle, plus_none}
use Rattle.laws.specs.Integer.{nat_abs_add}
use Rattle.laws.specs.Tests.{T-ext, T-both}
use Rattle.whole.specs.Whole.{whole, Small}
use Rattle.binomials.specs.Binomial.{binomial, binomial_self, binomial_one, symmetric, monotone}
use Rattle.lattice.specs.Tally.{total, start, rank_of, parts, add_tile, total_nil, total_cons, rank_is, add_tile_is}
use Rattle.lattice.specs.Step.{step, steps_before, step_is, step_none, within_steps, steps_before_append}
use Rattle.lattice.specs.Rank.{rank_injective, length_add_tile}
use Rattle.lattice.specs.Parts.{parts_within, part_length}
use Rattle.runs.specs.Runs.{Absent, over}
use Rattle.search.specs.Walk.{total_snoc}
use Rattle.hands.specs.Hands.{holds}
use Rattle.hands.specs.PartSums.{same, same_eq, sum_parts_cons}
use Rattle.hands.proofs.PartSums.{sum_parts}
use Rattle.sums.specs.Spread.{add_one, number_at, add_each, run, marks, offers, offers_to, reach, with_last, extended, length_add_one}

-- the marks with fewer than k tiles of the letter after the first i, m letters after it
abbrev marks_to : ℕ → List ℕ → ℕ → ℕ → ℕ → ℕ → ℕ → List ℕ
marks_to n t i m s w k = concat_map (λ c. marks n t i (s + c) (w + step m (s + c) c)) (upto k)

-- ---- the clauses of the marks

marks_none : (n : ℕ) (t : List ℕ) (s w : ℕ) → marks n t 0 s w ≡ (start n s + w) ∷ []
unfolding marks
marks_none n t s w = refl

marks_some : (n : ℕ) (t : List ℕ) (i s w : ℕ) → marks n t (suc i) s w ≡ marks_to n t i (n - suc i) s w (suc (get_or t i 0))
unfolding marks
marks_some n t i s w = refl

pub offers_none : (n : ℕ) (t : List ℕ) (s w s' w' len : ℕ) → offers n t 0 s w s' w' len ≡ (start n s + w, 0) ∷ run (start n s' + w') len
unfolding offers
offers_none n t s w s' w' len = refl

pub offers_some : (n : ℕ) (t : List ℕ) (i s w s' w' len : ℕ) → offers n t (suc i) s w s' w' len ≡ offers_to n t i (n - suc i) s w s' w' len (suc (get_or t i 0))
unfolding offers
offers_some n t i s w s' w' len = refl

extended_is : (n : ℕ) (t : List ℕ) (i : ℕ) → extended n t i ≡ concat_map (with_last n t i (n - suc i)) (upto (suc (get_or t i 0)))
unfolding extended
extended_is n t i = refl

-- ---- a rank from its letters and those after them

-- the rank of p with s tiles and w tallies before on the m letters after it
abbrev rank_on : ℕ → ℕ → ℕ → ℕ → List ℕ → ℕ
rank_on n m s w p = start n (total p + s) + (steps_before m s p + w)

steps_nil : (m s : ℕ) → steps_before m s [] ≡ 0
unfolding steps_before
steps_nil m s = refl

steps_one : (m s x : ℕ) → steps_before m s (x ∷ []) ≡ step m (s + x) x
unfolding steps_before
steps_one m s x =
    let e : 0 + m ≡ m = zero-add m in
    let g : x + (total [] + s) ≡ s + x = omega (arith, total_nil) in
    add-zero _ ∙ ap₂ (λ (a b : ℕ). step a b x) e g

rank_on_snoc : (n m s w : ℕ) (p : List ℕ) (x : ℕ) → rank_on n m s w (p ++ (x ∷ [])) ≡ rank_on n (suc m) (s + x) (w + step m (s + x) x) p
rank_on_snoc n m s w p x =
    let a : total (p ++ (x ∷ [])) + s ≡ total p + (s + x) = omega (arith, total_snoc p x) in
    let l : length (x ∷ []) + m ≡ suc m = omega arith in
    let t : total (x ∷ []) + s ≡ s + x = omega (arith, total_cons x [], total_nil) in
    let q : steps_before m s (p ++ (x ∷ [])) ≡ steps_before (suc m) (s + x) p + step m (s + x) x =
    steps_before_append m s p (x ∷ []) ∙ ap₂ ◌+◌ (ap₂ (λ (i j : ℕ). steps_before i j p) l t) (steps_one m s x) in
    let b : steps_before m s (p ++ (x ∷ [])) + w ≡ steps_before (suc m) (s + x) p + (w + step m (s + x) x) = omega arith in
    ap₂ ◌+◌ (ap (start n) a) b

rank_on_nil : (n m s w : ℕ) → rank_on n m s w [] ≡ start n s + w
rank_on_nil n m s w =
    ap₂ ◌+◌ (ap (start n) (ap (◌+ s) total_nil ∙ zero-add s)) (ap (◌+ w) (steps_nil m s) ∙ zero-add w)

-- with no letter after it
rank_on_whole : (n : ℕ) (p : List ℕ) → rank_on n 0 0 0 p ≡ rank_of n p
rank_on_whole n p =
    ap₂ ◌+◌ (ap (start n) (add-zero (total p))) (add-zero (steps_before 0 0 p) ∙ sym (within_steps p)) ∙ sym (rank_is n p)

-- ---- sums over the marks

module _ (𝓜 : Additive) where
  open 𝓜 use {Carrier, none, plus}

  -- the parts of a rack, its last letter's count first
  sum_parts_snoc : (t : List ℕ) (c : ℕ) (g : List ℕ → Carrier)
      → sum_in 𝓜 (parts (t ++ (c ∷ []))) g ≡ sum_in 𝓜 (upto (suc c)) (λ x. sum_in 𝓜 (parts t) (λ p. g (p ++ (x ∷ []))))
  unfolding parts
  sum_parts_snoc [] c g = sum_parts_cons 𝓜 c [] g
  sum_parts_snoc (d ∷ ds) c g =
      sum_parts_cons 𝓜 d (ds ++ (c ∷ [])) g
      ∙ sum_cong 𝓜 (upto (suc d)) (λ y. sum_parts_snoc ds c (λ p. g (y ∷ p)))
      ∙ sum_swap 𝓜 (upto (suc d)) (upto (suc c)) (λ y x. sum_in 𝓜 (parts ds) (λ p. g (y ∷ (p ++ (x ∷ [])))))
      ∙ sum_cong 𝓜 (upto (suc c)) (λ x. sym (sum_parts_cons 𝓜 d ds (λ p. g (p ++ (x ∷ [])))))

  sum_marks : (n : ℕ) (t : List ℕ) (i s w : ℕ) (f : ℕ → Carrier) → i ≤ length t → n ≡ length t
      → sum_in 𝓜 (marks n t i s w) f ≡ sum_in 𝓜 (parts (take i t)) (λ p. f (rank_on n (n - i) s w p))
  unfolding parts
  sum_marks n t zero s w f l e =
      ap (λ (xs : List ℕ). sum_in 𝓜 xs f) (marks_none n t s w) ∙ ap (λ (k : ℕ). plus (f k) none) (sym (rank_on_nil n (n - 0) s w))
  sum_marks n t (suc i) s w f l e =
      let m = n - suc i in
      let d : n - i ≡ suc m = omega arith in
      ap (λ (xs : List ℕ). sum_in 𝓜 xs f) (marks_some n t i s w)
      ∙ sum_concat_map 𝓜 (λ c. marks n t i (s + c) (w + step m (s + c) c)) (upto (suc (get_or t i 0))) f
      ∙ sum_cong 𝓜 (upto (suc (get_or t i 0)))
      (λ c.
      sum_marks n t i (s + c) (w + step m (s + c) c) f (omega arith) e
      ∙ sum_cong 𝓜 (parts (take i t)) (λ p. ap f (ap (λ (k : ℕ). rank_on n k (s + c) (w + step m (s + c) c) p) d ∙ sym (rank_on_snoc n m s w p c))))
      ∙ sym (sum_parts_snoc (take i t) (get_or t i 0) (λ p. f (rank_on n m s w p)))
      ∙ ap (λ (u : List ℕ). sum_in 𝓜 (parts u) (λ p. f (rank_on n m s w p))) (sym (take-suc t i 0 l))

  same_refl : (m : List ℕ) → T (same m m)
  same_refl [] = tt
  same_refl (x ∷ m) = T-both (eqb x x) (same m m) (eqb_refl x) (same_refl m)

  -- one rank is another where the tallies are the same
  rank_test : (n : ℕ) (m p : List ℕ) → length m ≡ n → length p ≡ n → eqb (rank_of n m) (rank_of n p) ≡ same m p
  rank_test n m p a b =
      T-ext (eqb (rank_of n m) (rank_of n p)) (same m p)
      (λ h. subst (λ (q : List ℕ). T (same m q)) (rank_injective n m p a b (eqb→eq (rank_of n m) (rank_of n p) h)) (same_refl m))
      (λ h. subst (λ (q : List ℕ). T (eqb (rank_of n m) (rank_of n q))) (same_eq m p h) (eqb_refl (rank_of n m)))

  -- the walk over a rack marks m once if the rack holds it, and not at all otherwise
  pub marks_hold : (n : ℕ) (t m : List ℕ) (a : Carrier) → length t ≡ n → length m ≡ n
      → sum_in 𝓜 (marks n t n 0 0) (λ i. cond (eqb (rank_of n m) i) a none) ≡ cond (holds t m) a none
  marks_hold n t m a e g =
      let z : n - n ≡ 0 = sub_self n in
      sum_marks n t n 0 0 (λ i. cond (eqb (rank_of n m) i) a none) (omega arith) (sym e)
      ∙ ap (λ (u : List ℕ). sum_in 𝓜 (parts u) (λ p. cond (eqb (rank_of n m) (rank_on n (n - n) 0 0 p)) a none)) (ap (λ (k : ℕ). take k t) (sym e) ∙ take-length t)
      ∙ sum_cong 𝓜 (parts t) (λ p. ap (λ (k : ℕ). cond (eqb (rank_of n m) k) a none) (ap (λ (k : ℕ). rank_on n k 0 0 p) z ∙ rank_on_whole n p))
      ∙ sum_cong_on 𝓜 (every_member (parts t) (λ p h. ap (λ (b : Bool). cond b a none) (rank_test n m p g (part_length p t (parts_within t p h) ∙ e))))
      ∙ sum_parts 𝓜 t m (λ p. a) (g ∙ sym e)

-- ---- marks of other tallies

-- each index of a mark j further
sum_shift : (𝓜 : Additive) (n : ℕ) (t : List ℕ) (i s w j : ℕ) (f : ℕ → 𝓜.Carrier) → sum_in 𝓜 (marks n t i s w) (λ q. f (q + j)) ≡ sum_in 𝓜 (marks n t i s (w + j)) f
sum_shift 𝓜 n t zero s w j f =
    let e : start n s + w + j ≡ start n s + (w + j) = omega arith in
    ap (λ (l : List ℕ). sum_in 𝓜 l (λ q. f (q + j))) (marks_none n t s w) ∙ ap (λ (k : ℕ). 𝓜.plus (f k) 𝓜.none) e ∙ ap (λ (l : List ℕ). sum_in 𝓜 l f) (sym (marks_none n t s (w + j)))
sum_shift 𝓜 n t (suc i) s w j f =
    let m = n - suc i in
    let k = upto (suc (get_or t i 0)) in
    ap (λ (l : List ℕ). sum_in 𝓜 l (λ q. f (q + j))) (marks_some n t i s w)
    ∙ sum_concat_map 𝓜 (λ c. marks n t i (s + c) (w + step m (s + c) c)) k (λ q. f (q + j))
    ∙ sum_cong 𝓜 k
    (λ c.
    let e : w + step m (s + c) c + j ≡ w + j + step m (s + c) c = omega arith in
    sum_shift 𝓜 n t i (s + c) (w + step m (s + c) c) j f ∙ ap (λ (v : ℕ). sum_in 𝓜 (marks n t i (s + c) v) f) e)
    ∙ sym (sum_concat_map 𝓜 (λ c. marks n t i (s + c) (w + j + step m (s + c) c)) k f)
    ∙ ap (λ (l : List ℕ). sum_in 𝓜 l f) (sym (marks_some n t i s (w + j)))

-- one turn more
marks_to_suc : (n : ℕ) (t : List ℕ) (i m s w k : ℕ) → marks_to n t i m s w (suc k) ≡ marks_to n t i m s w k ++ marks n t i (s + k) (w + step m (s + k) k)
marks_to_suc n t i m s w k =
    ap (concat_map f) (upto_suc k) ∙ concat_map_append f (upto k) (k ∷ []) ∙ ap (concat_map f (upto k) ++◌) (concat_map_one f k)
  where
    f : ℕ → List ℕ
    f c = marks n t i (s + c) (w + step m (s + c) c)

-- a letter that is not there
marks_one : (n : ℕ) (t : List ℕ) (i s w : ℕ) → get_or t i 0 ≡ 0 → marks n t (suc i) s w ≡ marks n t i s w
marks_one n t i s w e =
    marks_some n t i s w ∙ ap (λ (k : ℕ). marks_to n t i (n - suc i) s w (suc k)) e ∙ ap (concat_map f) (upto_suc 0 ∙ ap (◌++ (0 ∷ [])) upto_zero) ∙ concat_map_one f 0
    ∙ ap₂ (marks n t i) (add-zero s) (ap (w +◌) (step_none (n - suc i) (s + 0)) ∙ add-zero w)
  where
    f : ℕ → List ℕ
    f c = marks n t i (s + c) (w + step (n - suc i) (s + c) c)

marks_skip : (n : ℕ) (t : List ℕ) {j i : ℕ} (s w : ℕ) → j ≤ i → i ≤ length t → Absent t j i → marks n t i s w ≡ marks n t j s w
marks_skip n t {j} s w h l a = over t (λ i. marks n t i s w ≡ marks n t j s w) (λ i k e q. marks_one n t i s w e ∙ q) h l a refl

-- the letters from i on are not looked at
marks_prefix : (n : ℕ) (t u : List ℕ) (i s w : ℕ) → ((k : ℕ) → k < i → get_or t k 0 ≡ get_or u k 0) → marks n t i s w ≡ marks n u i s w
marks_prefix n t u zero s w h = marks_none n t s w ∙ sym (marks_none n u s w)
marks_prefix n t u (suc i) s w h =
    let m = n - suc i in
    marks_some n t i s w
    ∙ concat_map_cong (λ c. marks_prefix n t u i (s + c) (w + step m (s + c) c) (λ k l. h k (omega arith))) (upto (suc (get_or t i 0)))
    ∙ ap (λ (k : ℕ). marks_to n u i m s w (suc k)) (h i (omega arith)) ∙ sym (marks_some n u i s w)

-- ---- one tile more of a letter that no letter after it follows

module _ (n : ℕ) (t : List ℕ) (a : ℕ) (letters : length t ≡ n) (below : a < n) (absent : Absent t (suc a) n) where
  more_at : get_or (add_tile t a) a 0 ≡ suc (get_or t a 0)
  more_at = ap (λ (l : List ℕ). get_or l a 0) (add_tile_is t a) ∙ get_or-set_same t a (suc (get_or t a 0)) 0 (omega arith)

  more_other : (k : ℕ) → (k ≡ a → ⊥) → get_or (add_tile t a) k 0 ≡ get_or t k 0
  more_other k h = ap (λ (l : List ℕ). get_or l k 0) (add_tile_is t a) ∙ get_or-set_other t a k (suc (get_or t a 0)) 0 h

  more_absent : Absent (add_tile t a) (suc a) n
  more_absent = record { none = λ k h l. more_other k (λ e. absurd (apart k h e)) ∙ absent.none k h l }
    where
      apart : (k : ℕ) → suc a ≤ k → k ≡ a → ⊥
      apart k h e = omega arith

  marks_more : marks n (add_tile t a) n 0 0 ≡ marks n t n 0 0 ++ marks n t a (suc (get_or t a 0)) (step (n - suc a) (suc (get_or t a 0)) (suc (get_or t a 0)))
  marks_more =
      let m = n - suc a in
      let c = get_or t a 0 in
      marks_skip n (add_tile t a) 0 0 below (omega (arith, length_add_tile t a)) more_absent
      ∙ marks_some n (add_tile t a) a 0 0
      ∙ ap (λ (k : ℕ). marks_to n (add_tile t a) a m 0 0 (suc k)) more_at
      ∙ concat_map_cong (λ x. marks_prefix n (add_tile t a) t a (0 + x) (0 + step m (0 + x) x) (λ k h. more_other k (λ e. absurd (apart k h e)))) (upto (suc (suc c)))
      ∙ marks_to_suc n t a m 0 0 (suc c)
      ∙ ap₂ ◌++◌
      (sym (marks_some n t a 0 0) ∙ sym (marks_skip n t 0 0 below (omega arith) absent))
      (ap₂ (marks n t a) (zero-add (suc c)) (zero-add (step m (0 + suc c) (suc c)) ∙ ap (λ (s : ℕ). step m s (suc c)) (zero-add (suc c))))
    where
      apart : (k : ℕ) → k < a → k ≡ a → ⊥
      apart k h e = omega arith

-- C(m + 1, m) and C(m, m)
choose_one : (m : ℕ) → binomial (1 + m) m ≡ 1 + m
choose_one m = sym (symmetric 1 m) ∙ binomial_one (1 + m)

-- one tile of a letter with j letters after it
step_single : (j : ℕ) → step j 1 1 ≡ j
step_single j =
    let a : 1 - 1 + j ≡ j = omega arith in
    omega (arith, step_is j 1 1, choose_one j, ap (λ (k : ℕ). binomial k j) a, binomial_self j)

-- all tiles of the letter, or all but one, which is of the last letter
step_full : (m c : ℕ) → step m (suc c) (suc c) ≡ step m (1 + c) c + m
step_full m c =
    let a : suc c - suc c + m ≡ m = omega arith in
    let b : 1 + c - c + m ≡ 1 + m = omega arith in
    let s : 1 + c + m ≡ suc c + m = omega arith in
    let l : 1 + m ≤ suc c + m = omega arith in
    omega (arith, step_is m (suc c) (suc c), step_is m (1 + c) c, ap (λ (k : ℕ). binomial k m) a, ap (λ (k : ℕ). binomial k m) b, ap (λ (k : ℕ). binomial k m) s, binomial_self m, choose_one m, monotone m l)

-- ---- the sums over what the walk adds

module _ (𝓜 : Additive) where
  open 𝓜 use {Carrier, none, plus}

  sum_run : (at len : ℕ) (f : ℕ × ℕ → Carrier) → sum_in 𝓜 (run at len) f ≡ sum_in 𝓜 (upto len) (λ j. f (at + j, suc j))
  unfolding run
  sum_run at len f = sum_map 𝓜 (λ (j : ℕ). (at + j, suc j)) (upto len) f

  sum_offers : (n : ℕ) (t : List ℕ) (i s w s' w' len : ℕ) (f : ℕ × ℕ → Carrier)
      → sum_in 𝓜 (offers n t i s w s' w' len) f ≡ plus (sum_in 𝓜 (marks n t i s w) (λ q. f (q, 0))) (sum_in 𝓜 (upto len) (λ j. sum_in 𝓜 (marks n t i s' (w' + j)) (λ q. f (q, suc j))))
  sum_offers n t i s w s' w' len f =
      by_marks i s w s' w'
      ∙ ap (plus (sum_in 𝓜 (marks n t i s w) (λ q. f (q, 0))))
      (sum_swap 𝓜 (marks n t i s' w') (upto len) (λ q j. f (q + j, suc j)) ∙ sum_cong 𝓜 (upto len) (λ j. sum_shift 𝓜 n t i s' w' j (λ q. f (q, suc j))))
    where
      at_part : ℕ → Carrier
      at_part q = f (q, 0)

      at_racks : ℕ → Carrier
      at_racks q = sum_in 𝓜 (upto len) (λ j. f (q + j, suc j))

      by_marks : (i s w s' w' : ℕ) → sum_in 𝓜 (offers n t i s w s' w' len) f ≡ plus (sum_in 𝓜 (marks n t i s w) at_part) (sum_in 𝓜 (marks n t i s' w') at_racks)
      by_marks zero s w s' w' =
          ap (λ (l : List (ℕ × ℕ)). sum_in 𝓜 l f) (offers_none n t s w s' w' len)
          ∙ ap₂ plus (sym (plus_none 𝓜 (at_part (start n s + w)))) (sum_run (start n s' + w') len f ∙ sym (plus_none 𝓜 (at_racks (start n s' + w'))))
          ∙ ap₂ (λ (a b : List ℕ). plus (sum_in 𝓜 a at_part) (sum_in 𝓜 b at_racks)) (sym (marks_none n t s w)) (sym (marks_none n t s' w'))
      by_marks (suc i) s w s' w' =
          let m = n - suc i in
          let k = upto (suc (get_or t i 0)) in
          ap (λ (l : List (ℕ × ℕ)). sum_in 𝓜 l f) (offers_some n t i s w s' w' len)
          ∙ sum_concat_map 𝓜 (λ c. offers n t i (s + c) (w + step m (s + c) c) (s' + c) (w' + step m (s' + c) c) len) k f
          ∙ sum_cong 𝓜 k (λ c. by_marks i (s + c) (w + step m (s + c) c) (s' + c) (w' + step m (s' + c) c))
          ∙ sum_plus 𝓜 k (λ c. sum_in 𝓜 (marks n t i (s + c) (w + step m (s + c) c)) at_part) (λ c. sum_in 𝓜 (marks n t i (s' + c) (w' + step m (s' + c) c)) at_racks)
          ∙ ap₂ plus
          (sym (ap (λ (l : List ℕ). sum_in 𝓜 l at_part) (marks_some n t i s w) ∙ sum_concat_map 𝓜 (λ c. marks n t i (s + c) (w + step m (s + c) c)) k at_part))
          (sym (ap (λ (l : List ℕ). sum_in 𝓜 l at_racks) (marks_some n t i s' w') ∙ sum_concat_map 𝓜 (λ c. marks n t i (s' + c) (w' + step m (s' + c) c)) k at_racks))

  -- a leave t whose last letter is that after the first l, and the entry of x; the first number is the sum of the others
  module _ (n : ℕ) (t x : List ℕ) (l : ℕ) (letters : length t ≡ n) (same-letters : length x ≡ n) (below : l < n) (absent : Absent t (suc l) n)
      (g : ℕ → Carrier) (all : g 0 ≡ sum_in 𝓜 (upto (suc (n - suc l))) (λ j. g (suc j))) where
    abbrev m : ℕ
    m = n - suc l

    abbrev c : ℕ
    c = get_or t l 0

    -- a, at the entry of x
    abbrev at : Carrier → ℕ → Carrier
    at a q = cond (eqb (rank_of n x) q) a none

    -- what the walk adds for the rack at j, at parts with y tiles of the last letter
    abbrev own : ℕ → ℕ → Carrier
    own y j = sum_in 𝓜 (marks n t l (1 + y) (step m (1 + y) y + j)) (at (g (suc j)))

    -- the sum, at the parts of the leave
    at_parts : sum_in 𝓜 (upto (suc c)) (λ y. sum_in 𝓜 (marks n t l y (step m y y)) (at (g 0))) ≡ cond (holds t x) (g 0) none
    at_parts =
        sum_cong 𝓜 (upto (suc c))
        (λ y. ap₂ (λ (s w : ℕ). sum_in 𝓜 (marks n t l s w) (at (g 0))) (sym (zero-add y)) (ap (λ (s : ℕ). step m s y) (sym (zero-add y)) ∙ sym (zero-add (step m (0 + y) y))))
        ∙ sym (sum_concat_map 𝓜 (λ y. marks n t l (0 + y) (0 + step m (0 + y) y)) (upto (suc c)) (at (g 0)))
        ∙ ap (λ (k : List ℕ). sum_in 𝓜 k (at (g 0))) (sym (marks_some n t l 0 0) ∙ sym (marks_skip n t 0 0 below (omega arith) absent))
        ∙ marks_hold 𝓜 n t x (g 0) letters same-letters

    by_parts : sum_in 𝓜 (extended n t l) (λ p. at (g p.1) p.0) ≡ plus (cond (holds t x) (g 0) none) (sum_in 𝓜 (upto (suc c)) (λ y. sum_in 𝓜 (upto (reach m c y)) (own y)))
    by_parts =
        ap (λ (k : List (ℕ × ℕ)). sum_in 𝓜 k (λ p. at (g p.1) p.0)) (extended_is n t l)
        ∙ sum_concat_map 𝓜 (with_last n t l m) (upto (suc c)) (λ p. at (g p.1) p.0)
        ∙ sum_cong 𝓜 (upto (suc c)) (λ y. sum_offers n t l y (step m y y) (1 + y) (step m (1 + y) y) (reach m c y) (λ p. at (g p.1) p.0))
        ∙ sum_plus 𝓜 (upto (suc c)) (λ y. sum_in 𝓜 (marks n t l y (step m y y)) (at (g 0))) (λ y. sum_in 𝓜 (upto (reach m c y)) (own y))
        ∙ ap (λ (a : Carrier). plus a (sum_in 𝓜 (upto (suc c)) (λ y. sum_in 𝓜 (upto (reach m c y)) (own y)))) at_parts

    -- by racks: those of the letters after the last one, and that of the last one
    by_racks : sum_in 𝓜 (upto (suc c)) (λ y. sum_in 𝓜 (upto (reach m c y)) (own y)) ≡ plus (sum_in 𝓜 (upto m) (λ j. sum_in 𝓜 (upto (suc c)) (λ y. own y j))) (own c m)
    by_racks =
        sum_upto_suc 𝓜 c (λ y. sum_in 𝓜 (upto (reach m c y)) (own y))
        ∙ ap₂ plus
        (sum_cong_on 𝓜 (every_weaken (λ y h. ap (λ (b : Bool). sum_in 𝓜 (upto (cond b m (suc m))) (own y)) (lt-ltb y c h)) (upto_below c)))
        (ap (λ (b : Bool). sum_in 𝓜 (upto (cond b m (suc m))) (own c)) (le-ltb c c (omega arith)) ∙ sum_upto_suc 𝓜 m (own c))
        ∙ sym (𝓜.plus_assoc (sum_in 𝓜 (upto c) (λ y. sum_in 𝓜 (upto m) (own y))) (sum_in 𝓜 (upto m) (own c)) (own c m))
        ∙ ap (λ (a : Carrier). plus a (own c m)) (sym (sum_upto_suc 𝓜 c (λ y. sum_in 𝓜 (upto m) (own y))) ∙ sum_swap 𝓜 (upto (suc c)) (upto m) own)

    -- a rack holds x where the leave does, or by its last tile
    rack_holds : (a : ℕ) → a < n → Absent t (suc a) n → (v : Carrier)
        → cond (holds (add_tile t a) x) v none ≡ plus (cond (holds t x) v none) (sum_in 𝓜 (marks n t a (suc (get_or t a 0)) (step (n - suc a) (suc (get_or t a 0)) (suc (get_or t a 0)))) (at v))
    rack_holds a h k v =
        sym (marks_hold 𝓜 n (add_tile t a) x v (length_add_tile t a ∙ letters) same-letters)
        ∙ ap (λ (q : List ℕ). sum_in 𝓜 q (at v)) (marks_more n t a letters h k)
        ∙ sum_append 𝓜 (marks n t n 0 0) (marks n t a (suc (get_or t a 0)) (step (n - suc a) (suc (get_or t a 0)) (suc (get_or t a 0)))) (at v)
        ∙ ap (λ (q : Carrier). plus q (sum_in 𝓜 (marks n t a (suc (get_or t a 0)) (step (n - suc a) (suc (get_or t a 0)) (suc (get_or t a 0)))) (at v))) (marks_hold 𝓜 n t x v letters same-letters)

    -- a tile of a letter after the last one
    later_rack : (j : ℕ) → j < m → cond (holds (add_tile t (n - 1 - j)) x) (g (suc j)) none ≡ plus (cond (holds t x) (g (suc j)) none) (sum_in 𝓜 (upto (suc c)) (λ y. own y j))
    later_rack j h =
        let a = n - 1 - j in
        let low : suc l ≤ a = omega arith in
        let high : a < n = omega arith in
        let e : get_or t a 0 ≡ 0 = absent.none a low high in
        let d : n - suc a ≡ j = omega arith in
        rack_holds a high (record { none = λ k p q. absent.none k (omega arith) q }) (g (suc j))
        ∙ ap (plus (cond (holds t x) (g (suc j)) none))
        (ap (λ (q : List ℕ). sum_in 𝓜 q (at (g (suc j))))
        ((λ i. marks n t a (suc (e i)) (step (d i) (suc (e i)) (suc (e i)))) ∙ ap (marks n t a 1) (step_single j) ∙ marks_skip n t 1 j low (omega arith) (record { none = λ k p q. absent.none k p (omega arith) })
        ∙ marks_some n t l 1 j)
        ∙ sum_concat_map 𝓜 (λ y. marks n t l (1 + y) (j + step m (1 + y) y)) (upto (suc c)) (at (g (suc j)))
        ∙ sum_cong 𝓜 (upto (suc c)) (λ y. ap (λ (w : ℕ). sum_in 𝓜 (marks n t l (1 + y) w) (at (g (suc j)))) (add_comm j (step m (1 + y) y))))

    -- a tile of the last letter
    last_rack : cond (holds (add_tile t (n - 1 - m)) x) (g (suc m)) none ≡ plus (cond (holds t x) (g (suc m)) none) (own c m)
    last_rack =
        let e : n - 1 - m ≡ l = omega arith in
        let d : suc c ≡ 1 + c = omega arith in
        ap (λ (a : ℕ). cond (holds (add_tile t a) x) (g (suc m)) none) e ∙ rack_holds l below absent (g (suc m))
        ∙ ap (plus (cond (holds t x) (g (suc m)) none)) (ap₂ (λ (s w : ℕ). sum_in 𝓜 (marks n t l s w) (at (g (suc m)))) d (step_full m c))

    -- the first number, by racks
    sum_of_all : cond (holds t x) (g 0) none ≡ sum_in 𝓜 (upto (suc m)) (λ j. cond (holds t x) (g (suc j)) none)
    sum_of_all = go (holds t x)
      where
        go : (b : Bool) → cond b (g 0) none ≡ sum_in 𝓜 (upto (suc m)) (λ j. cond b (g (suc j)) none)
        go true = all
        go false = sym (sum_none 𝓜 (upto (suc m)))

    -- THE WALK OF A LEAVE: at the entry of x, the numbers of the racks that hold x
    pub extended_sum : sum_in 𝓜 (extended n t l) (λ p. cond (eqb (rank_of n x) p.0) (g p.1) none) ≡ sum_in 𝓜 (upto (suc (n - suc l))) (λ j. cond (holds (add_tile t (n - 1 - j)) x) (g (suc j)) none)
    extended_sum =
        let A : ℕ → Carrier = λ j. cond (holds t x) (g (suc j)) none in
        let E : ℕ → Carrier = λ j. sum_in 𝓜 (upto (suc c)) (λ y. own y j) in
        by_parts ∙ ap₂ plus (sum_of_all ∙ sum_upto_suc 𝓜 m A) by_racks
        ∙ plus_middle 𝓜 (sum_in 𝓜 (upto m) A) (A m) (sum_in 𝓜 (upto m) E) (own c m)
        ∙ sym
        (sum_upto_suc 𝓜 m (λ j. cond (holds (add_tile t (n - 1 - j)) x) (g (suc j)) none)
        ∙ ap₂ plus (sum_cong_on 𝓜 (every_weaken later_rack (upto_below m)) ∙ sum_plus 𝓜 (upto m) A E) last_rack)

-- ---- the entries of a table of whole numbers

-- the float x stands for the integer d in a sum
pub record Adds (x : Float) (d : ℤ) : Type 0 where
  pub step : (z : ℤ) → Small z → add binary64 (whole z) x ≡ whole (z +ℤ d)

same_entry : (x : Float) (xs : List Float) {i k : ℕ} → k ≡ i → k < length xs → get_or (add_one i x xs) k nan ≡ add binary64 (get_or xs k nan) x
unfolding add_one
same_entry x xs {i} {k} e h =
    ap (λ (j : ℕ). get_or (set xs j (add binary64 (get_or xs j nan) x)) k nan) (sym e) ∙ get_or-set_same xs k (add binary64 (get_or xs k nan) x) nan h

other_entry : (x : Float) (xs : List Float) (i k : ℕ) → (k ≡ i → ⊥) → get_or (add_one i x xs) k nan ≡ get_or xs k nan
unfolding add_one
other_entry x xs i k n = get_or-set_other xs i k (add binary64 (get_or xs i nan) x) nan n

-- each time that k is among the indices, the number at its place is added, where the numbers are small enough together
pub add_each_at : (ps : List (ℕ × ℕ)) (vs : List Float) (d : ℕ → ℤ) (D : ℕ → ℕ) (k : ℕ) (xs : List Float) (z : ℤ) → ((a : ℕ) → Adds (number_at vs a) (d a)) → ((a : ℕ) → nat_abs (d a) ≤ D a)
    → k < length xs → get_or xs k nan ≡ whole z → nat_abs z + sum_over ps (λ p. cond (eqb k p.0) (D p.1) 0) ≤ 2 ^ 53
    → get_or (add_each ps vs xs) k nan ≡ whole (z +ℤ sum_over_ℤ ps (λ p. cond (eqb k p.0) (d p.1) (pos 0)))
unfolding add_each
add_each_at [] vs d D k xs z a b h e l = e ∙ ap whole (sym (+ℤ_idr z))
add_each_at (p ∷ ps) vs d D k xs z a b h e l = by (λ y. add_each_at ps vs d D k (add_one p.0 x xs) y a b) (eqb k p.0) (eqb→eq k p.0) (λ q. rw q (eqb_refl p.0)) l
  where
    x : Float
    x = number_at vs p.1

    N : ℕ
    N = sum_over ps (λ q. cond (eqb k q.0) (D q.1) 0)

    Z : ℤ
    Z = sum_over_ℤ ps (λ q. cond (eqb k q.0) (d q.1) (pos 0))

    long : k < length (add_one p.0 x xs)
    long = rw (length_add_one p.0 x xs) h

    by : ((y : ℤ) → k < length (add_one p.0 x xs) → get_or (add_one p.0 x xs) k nan ≡ whole y → nat_abs y + N ≤ 2 ^ 53 → get_or (add_each ps vs (add_one p.0 x xs)) k nan ≡ whole (y +ℤ Z))
        → (t : Bool) → (T t → k ≡ p.0) → (k ≡ p.0 → T t) → nat_abs z + (cond t (D p.1) 0 + N) ≤ 2 ^ 53
        → get_or (add_each ps vs (add_one p.0 x xs)) k nan ≡ whole (z +ℤ (cond t (d p.1) (pos 0) +ℤ Z))
    by rest true f g m =
        let s : Small z = omega arith in
        let r : nat_abs (z +ℤ d p.1) + N ≤ 2 ^ 53 = omega (arith, nat_abs_add z (d p.1), b p.1) in
        rest (z +ℤ d p.1) long (same_entry x xs (f tt) h ∙ ap (λ (y : Float). add binary64 y x) e ∙ (a p.1).step z s) r ∙ ap whole (+ℤ_assoc z (d p.1) Z)
    by rest false f g m =
        let r : nat_abs z + N ≤ 2 ^ 53 = omega arith in
        rest z long (other_entry x xs p.0 k g ∙ e) r ∙ ap (λ (y : ℤ). whole (z +ℤ y)) (sym (+ℤ_idl Z))

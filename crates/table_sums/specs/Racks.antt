-- What the loops over the full racks' own entries compute and write, and the part of a table from the first of them on. Assumes nothing.
use Rattle.std.specs.Prelude.{◌≡◌, refl, ◌⊎◌, Bool, true, false, cond, List, ℕ, suc, ◌+◌, ◌≤◌, ◌<◌, max, ℤ, pos, nat_abs, length, get_or, set, ◌++◌, ◌-◌, take, drop, replicate}
use Rattle.std.proofs.Common.{sym, ap, ◌∙◌, inl, inr, le_of_eq, length-set, length-drop, length-append, length-take-le, get_or-take, get_or-drop, get_or-append-add, get_or-set_same, get_or-set_other, le_refl, arith}
use Rattle.std.proofs.Math.ListN.{get_or-append}
use Rattle.std.proofs.lemmas.List.{get_or_past, length-replicate, get_or-replicate}
use Rattle.std.specs.Float.Ieee.{Float, lt, mul, of_bits, binary64}
use Rattle.std.specs.Float.{nan}
use Rattle.std.proofs.Math.Decide.{ℕ_discrete}
use Rattle.laws.specs.Integer.{at_ℤ}
use Rattle.laws.specs.Loops.{ascend}
use Rattle.whole.specs.Whole.{whole}
use Rattle.sums.specs.Folds.{at_f}

-- the larger of m and of the size of the best at k, where that rack has a way
unfoldable pub larger_at : List ℤ → List Float → ℕ → ℕ → ℕ
larger_at best ways k m = cond (lt (of_bits binary64 0) (at_f ways k)) (max m (nat_abs (at_ℤ best k))) m

-- the largest of k racks from lo on, and at least 16
abbrev pub most_from : ℕ → List ℤ → List Float → ℕ → ℕ
most_from lo best ways k = ascend (λ j. larger_at best ways (lo + j)) k 16

-- the entry at k becomes the ways times the best, where the rack has a way
unfoldable pub value_one : List ℤ → List Float → ℕ → List Float → List Float
value_one best ways k num = cond (lt (of_bits binary64 0) (at_f ways k)) (set num k (mul binary64 (at_f ways k) (whole (at_ℤ best k)))) num

-- a becomes b: so is each entry from lo to below k, and the rest is as it was
pub record Valued (lo : ℕ) (best : List ℤ) (ways : List Float) (k : ℕ) (a b : List Float) : Type 0 where
  pub long : length b ≡ length a
  pub inside : (i : ℕ) → lo ≤ i → i < k → get_or b i nan ≡ cond (lt (of_bits binary64 0) (at_f ways i)) (mul binary64 (at_f ways i) (whole (at_ℤ best i))) (get_or a i nan)
  pub outside : (i : ℕ) → (i < lo) ⊎ (k ≤ i) → get_or b i nan ≡ get_or a i nan

-- a becomes b: each entry from lo to below k is +0.0, and the rest is as it was
pub record Cleared (lo k : ℕ) (a b : List Float) : Type 0 where
  pub long : length b ≡ length a
  pub inside : (i : ℕ) → lo ≤ i → i < k → get_or b i nan ≡ whole (pos 0)
  pub outside : (i : ℕ) → (i < lo) ⊎ (k ≤ i) → get_or b i nan ≡ get_or a i nan

-- the part of xs from lo on
abbrev pub part : {A : Type 0} → ℕ → List A → List A
part lo xs = take (length xs - lo) (drop lo xs)

-- xs with that part written anew
abbrev pub anew : {A : Type 0} → ℕ → List A → List A → List A
anew lo xs ys = take lo xs ++ (ys ++ drop (length xs - lo) (drop lo xs))

pub larger_is : (best : List ℤ) (ways : List Float) (k m : ℕ) {x : ℕ} {z : ℤ} → z ≡ at_ℤ best k → x ≡ cond (lt (of_bits binary64 0) (at_f ways k)) (max m (nat_abs z)) m → x ≡ larger_at best ways k m
unfolding larger_at
larger_is best ways k m e h = h ∙ ap (λ (y : ℤ). cond (lt (of_bits binary64 0) (at_f ways k)) (max m (nat_abs y)) m) e

pub value_there : (best : List ℤ) (ways : List Float) (k : ℕ) (num : List Float) {z : ℤ} → z ≡ at_ℤ best k → lt (of_bits binary64 0) (at_f ways k) ≡ true
    → set num k (mul binary64 (at_f ways k) (whole z)) ≡ value_one best ways k num
unfolding value_one
value_there best ways k num e h =
    ap (λ (y : ℤ). set num k (mul binary64 (at_f ways k) (whole y))) e ∙ sym (ap (λ (b : Bool). cond b (set num k (mul binary64 (at_f ways k) (whole (at_ℤ best k)))) num) h)

pub value_none : (best : List ℤ) (ways : List Float) (k : ℕ) (num : List Float) → lt (of_bits binary64 0) (at_f ways k) ≡ false → num ≡ value_one best ways k num
unfolding value_one
value_none best ways k num h = sym (ap (λ (b : Bool). cond b (set num k (mul binary64 (at_f ways k) (whole (at_ℤ best k)))) num) h)

-- ---- one entry more

module _ (lo : ℕ) (best : List ℤ) (ways : List Float) where
  pub valued_none : (k : ℕ) (a : List Float) → k ≤ lo → Valued lo best ways k a a
  valued_none k a h = record { long = refl; inside = λ i l g. absurd (none i l g); outside = λ i l. refl }
    where
      none : (i : ℕ) → lo ≤ i → i < k → ⊥
      none i l g = omega arith

  pub valued_more : {k : ℕ} {a b b' : List Float} → lo ≤ k → k < length b → Valued lo best ways k a b → b' ≡ value_one best ways k b → Valued lo best ways (suc k) a b'
  unfolding value_one
  valued_more {k} {a} {b} {b'} l h v e = rw e (by (lt (of_bits binary64 0) (at_f ways k)) refl)
    where
      x : Float
      x = mul binary64 (at_f ways k) (whole (at_ℤ best k))

      by : (t : Bool) → lt (of_bits binary64 0) (at_f ways k) ≡ t → Valued lo best ways (suc k) a (cond t (set b k x) b)
      by t q = record { long = long t ∙ v.long; inside = λ i m g. at t q i m g (ℕ_discrete i k); outside = λ i g. other t i (apart i g) ∙ v.outside i (wider i g) }
        where
          long : (t : Bool) → length (cond t (set b k x) b) ≡ length b
          long true = length-set b k x
          long false = refl

          other : (t : Bool) (i : ℕ) → (i ≡ k → ⊥) → get_or (cond t (set b k x) b) i nan ≡ get_or b i nan
          other true i n = get_or-set_other b k i x nan n
          other false i n = refl

          apart : (i : ℕ) → (i < lo) ⊎ (suc k ≤ i) → i ≡ k → ⊥
          apart i (inl g) f = omega arith
          apart i (inr g) f = omega arith

          wider : (i : ℕ) → (i < lo) ⊎ (suc k ≤ i) → (i < lo) ⊎ (k ≤ i)
          wider i (inl g) = inl g
          wider i (inr g) = inr (omega arith)

          same : (t : Bool) → get_or (cond t (set b k x) b) k nan ≡ cond t x (get_or a k nan)
          same true = get_or-set_same b k x nan h
          same false = v.outside k (inr (le_refl k))

          at : (t : Bool) → lt (of_bits binary64 0) (at_f ways k) ≡ t → (i : ℕ) → lo ≤ i → i < suc k → Dec (i ≡ k)
              → get_or (cond t (set b k x) b) i nan ≡ cond (lt (of_bits binary64 0) (at_f ways i)) (mul binary64 (at_f ways i) (whole (at_ℤ best i))) (get_or a i nan)
          at t q i m g (yes f) = rw (f, q) (same t)
          at t q i m g (no f) = other t i f ∙ v.inside i m (omega arith)

-- ---- the part from lo on

module _ {A : Type 0} (lo : ℕ) (xs : List A) (h : lo ≤ length xs) where
  pub part_long : length (part lo xs) ≡ length xs - lo
  part_long = length-take-le (length xs - lo) (drop lo xs) (le_of_eq (sym (length-drop lo xs)))

  pub part_at : (j : ℕ) (d : A) → j < length xs - lo → get_or (part lo xs) j d ≡ get_or xs (lo + j) d
  part_at j d l = get_or-take (length xs - lo) (drop lo xs) j d l ∙ get_or-drop lo xs j d

  front : length (take lo xs) ≡ lo
  front = length-take-le lo xs h

  module _ (ys : List A) where
    pub anew_long : length ys ≡ length xs - lo → length (anew lo xs ys) ≡ length xs
    anew_long e =
        let none : length (drop (length xs - lo) (drop lo xs)) ≡ 0 = length-drop (length xs - lo) (drop lo xs) ∙ omega (arith, length-drop lo xs) in
        length-append (take lo xs) _ ∙ omega (arith, front, length-append ys (drop (length xs - lo) (drop lo xs)), none, e, h)

    pub anew_below : (i : ℕ) (d : A) → i < lo → get_or (anew lo xs ys) i d ≡ get_or xs i d
    anew_below i d l = get_or-append (take lo xs) _ d i (omega (arith, front)) ∙ get_or-take lo xs i d l

    pub anew_from : (j : ℕ) (d : A) → j < length ys → get_or (anew lo xs ys) (lo + j) d ≡ get_or ys j d
    anew_from j d l =
        ap (λ (k : ℕ). get_or (anew lo xs ys) (k + j) d) (sym front)
        ∙ get_or-append-add (take lo xs) (ys ++ drop (length xs - lo) (drop lo xs)) j d
        ∙ get_or-append ys _ d j l

pub valued_part : (lo : ℕ) (best : List ℤ) (ways num : List Float) {k : ℕ} {ys : List Float} → lo ≤ length best → length best ≡ length ways → length best ≡ length num → length best - lo ≤ k
    → Valued 0 (part lo best) (part lo ways) k (part lo num) ys → Valued lo best ways (length best) num (anew lo num ys)
valued_part lo best ways num {k} {ys} h w n more v = record { long = long; inside = inside; outside = outside }
  where
    h-ways : lo ≤ length ways
    h-ways = omega arith

    h-num : lo ≤ length num
    h-num = omega arith

    size : length ys ≡ length num - lo
    size = v.long ∙ part_long lo num h-num

    long : length (anew lo num ys) ≡ length num
    long = anew_long lo num h-num ys size

    at : (q : ℕ) → q < length best - lo → get_or (anew lo num ys) (lo + q) nan ≡ cond (lt (of_bits binary64 0) (at_f ways (lo + q))) (mul binary64 (at_f ways (lo + q)) (whole (at_ℤ best (lo + q)))) (get_or num (lo + q) nan)
    at q l =
        let a = part_at lo ways h-ways q nan (omega arith) in
        let b = part_at lo best h q (pos 0) l in
        let c = part_at lo num h-num q nan (omega arith) in
        anew_from lo num h-num ys q nan (omega (arith, size)) ∙ rw (a, b, c) at (v.inside q (omega arith) (omega arith))

    inside : (i : ℕ) → lo ≤ i → i < length best → get_or (anew lo num ys) i nan ≡ cond (lt (of_bits binary64 0) (at_f ways i)) (mul binary64 (at_f ways i) (whole (at_ℤ best i))) (get_or num i nan)
    inside i l g =
        let e : lo + (i - lo) ≡ i = omega arith in
        rw e at (at (i - lo) (omega arith))

    outside : (i : ℕ) → (i < lo) ⊎ (length best ≤ i) → get_or (anew lo num ys) i nan ≡ get_or num i nan
    outside i (inl l) = anew_below lo num h-num ys i nan l
    outside i (inr l) = get_or_past _ i nan (omega (arith, long)) ∙ sym (get_or_past num i nan (omega arith))

-- the part filled with +0.0
pub cleared_part : (lo : ℕ) (xs : List Float) → lo ≤ length xs → {ys : List Float} {x : Float} → x ≡ whole (pos 0) → ys ≡ replicate (length (part lo xs)) x → Cleared lo (length xs) xs (anew lo xs ys)
cleared_part lo xs h {ys} {x} q f = record { long = long; inside = inside; outside = outside }
  where
    size : length ys ≡ length xs - lo
    size = ap length f ∙ length-replicate (length (part lo xs)) x ∙ part_long lo xs h

    long : length (anew lo xs ys) ≡ length xs
    long = anew_long lo xs h ys size

    inside : (i : ℕ) → lo ≤ i → i < length xs → get_or (anew lo xs ys) i nan ≡ whole (pos 0)
    inside i l g =
        let e : lo + (i - lo) ≡ i = omega arith in
        let j : i - lo < length (part lo xs) = omega (arith, part_long lo xs h) in
        ap (λ (k : ℕ). get_or (anew lo xs ys) k nan) (sym e)
        ∙ anew_from lo xs h ys (i - lo) nan (omega (arith, size))
        ∙ ap (λ (zs : List Float). get_or zs (i - lo) nan) f ∙ get_or-replicate (length (part lo xs)) (i - lo) x nan j ∙ q

    outside : (i : ℕ) → (i < lo) ⊎ (length xs ≤ i) → get_or (anew lo xs ys) i nan ≡ get_or xs i nan
    outside i (inl l) = anew_below lo xs h ys i nan l
    outside i (inr l) = get_or_past _ i nan (omega (arith, long)) ∙ sym (get_or_past xs i nan l)

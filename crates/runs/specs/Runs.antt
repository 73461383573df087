-- The letters that a tally has, as a word: a bit for each letter, the last letter's bit lowest. Its trailing zeros are the
-- letters that the end of the tally lacks, which no walk needs to look at.
-- Assumes nothing.
use Rattle.std.specs.Prelude.{◌≡◌, refl, List, [], ◌∷◌, ◌++◌, ℕ, zero, suc, ◌+◌, ◌-◌, ◌*◌, ◌/◌, ◌%◌, ◌^◌, ◌≤◌, ◌<◌, length, get_or, take}
use Rattle.std.proofs.Common.{sym, ap, ◌∙◌, subst, ⊎_elim, add-zero, add-suc, eq-or-lt_of_le, pow-suc, div-one, add-one, arith, length-append, shr-shr, take-suc}
use Rattle.std.specs.Int.Count.{ones, ones_in, ones_step, count_trailing_zeros, under}

-- 1 for a letter that is there
unfoldable pub mark : ℕ → ℕ
mark zero = 0
mark (suc c) = 1

unfoldable pub present : List ℕ → ℕ
present [] = 0
present (c ∷ cs) = mark c * 2 ^ length cs + present cs

pub present_snoc : (t : List ℕ) (c : ℕ) → present (t ++ (c ∷ [])) ≡ 2 * present t + mark c
unfolding present
present_snoc [] c = omega arith
present_snoc (d ∷ ds) c =
    let e : length (ds ++ (c ∷ [])) ≡ suc (length ds) = omega (arith, length-append ds (c ∷ [])) in
    let p : 2 ^ length (ds ++ (c ∷ [])) ≡ 2 ^ length ds * 2 = ap (λ (k : ℕ). 2 ^ k) e ∙ pow-suc 2 (length ds) in
    let q : mark d * 2 ^ length (ds ++ (c ∷ [])) ≡ mark d * (2 ^ length ds * 2) = ap (λ (x : ℕ). mark d * x) p in
    omega (arith, q, present_snoc ds c)

-- one letter more of t
pub present_suc : (t : List ℕ) (i : ℕ) → i < length t → present (take (suc i) t) ≡ 2 * present (take i t) + mark (get_or t i 0)
present_suc t i h = ap present (take-suc t i 0 h) ∙ present_snoc (take i t) (get_or t i 0)

pub mark_none : {c : ℕ} → c ≡ 0 → mark c ≡ 0
unfolding mark
mark_none e = ap mark e

pub mark_some : (c : ℕ) → (c ≡ 0 → ⊥) → mark c ≡ 1
unfolding mark
mark_some zero f = absurd (f refl)
mark_some (suc c) f = refl

-- a word has as many digits as there are letters
pub present_below : (t : List ℕ) → present t < 2 ^ length t
unfolding present mark
present_below [] = omega arith
present_below (c ∷ cs) = by c (present_below cs)
  where
    by : (c : ℕ) → present cs < 2 ^ length cs → mark c * 2 ^ length cs + present cs < 2 ^ suc (length cs)
    by zero h = omega (arith, pow-suc 2 (length cs))
    by (suc c) h = omega (arith, pow-suc 2 (length cs))

-- the word of one letter more, as a loop makes it
pub present_next : (t : List ℕ) {i w v b : ℕ} → i < length t → w ≡ present (take i t) → mark (get_or t i 0) ≡ b → v ≡ w * 2 + b → v ≡ present (take (i + 1) t)
present_next t {i} {w} {v} {b} l e f g =
    let a : v ≡ present (take (suc i) t) = omega (arith, present_suc t i l, e, f, g) in
    a ∙ ap (λ (k : ℕ). present (take k t)) (sym (add-one i))

-- no letter of t from j up to i is there
pub record Absent (t : List ℕ) (j i : ℕ) : Type 0 where
  pub none : (k : ℕ) → j ≤ k → k < i → get_or t k 0 ≡ 0

absent_more : {t : List ℕ} {j i : ℕ} → Absent t j i → get_or t i 0 ≡ 0 → Absent t j (suc i)
absent_more {t} {j} {i} h e = record { none = more }
  where
    more : (k : ℕ) → j ≤ k → k < suc i → get_or t k 0 ≡ 0
    more k a b =
        let l : k ≤ i = omega arith in
        ⊎_elim (λ (q : k ≡ i). ap (λ (x : ℕ). get_or t x 0) q ∙ e) (λ lt. h.none k a lt) (eq-or-lt_of_le l)

absent_less : {t : List ℕ} {j i : ℕ} → Absent t j (suc i) → Absent t j i
absent_less {t} {j} {i} h = record { none = less }
  where
    less : (k : ℕ) → j ≤ k → k < i → get_or t k 0 ≡ 0
    less k a b = h.none k a (omega arith)

-- an empty word
pub none_present : (t : List ℕ) (i : ℕ) → i ≤ length t → present (take i t) ≡ 0 → Absent t 0 i
unfolding mark
none_present t zero l e = record { none = λ k a b. absurd (below_none k b) }
  where
    below_none : (k : ℕ) → k < 0 → ⊥
    below_none k b = omega arith
none_present t (suc i) l e =
    let s = present_suc t i l in
    absent_more (none_present t i (omega arith) (omega (arith, s, e))) (by (get_or t i 0) (omega (arith, s, e)))
  where
    by : (c : ℕ) → mark c ≡ 0 → c ≡ 0
    by zero q = refl
    by (suc c) q = absurd (apart q)
      where
        apart : ◌≡◌ {A = ℕ} 1 0 → ⊥
        apart q = omega arith

-- the letter of the lowest bit of w, the word of the first i letters: z letters lack after it
pub record Lowest (t : List ℕ) (i w z : ℕ) : Type 0 where
  pub below : z < i
  pub here : get_or t (i - z - 1) 0 ≡ 0 → ⊥
  pub rest : w / 2 ^ z / 2 ≡ present (take (i - z - 1) t)
  pub absent : Absent t (i - z) i

lowest_here : (t : List ℕ) (i w : ℕ) → (get_or t i 0 ≡ 0 → ⊥) → w ≡ 2 * present (take i t) + 1 → Lowest t (suc i) w 0
lowest_here t i w f e =
    let a : suc i - 0 - 1 ≡ i = omega arith in
    let b : w / 2 ≡ present (take i t) = omega arith in
    record {
      below = omega arith;
      here = λ g. f (ap (λ (k : ℕ). get_or t k 0) (sym a) ∙ g);
      rest = ap (λ (x : ℕ). x / 2) (div-one w) ∙ b ∙ ap (λ (k : ℕ). present (take k t)) (sym a);
      absent = record { none = λ k h l. absurd (not_both k h l) };
    }
  where
    not_both : (k : ℕ) → suc i - 0 ≤ k → k < suc i → ⊥
    not_both k h l = omega arith

lowest_next : (t : List ℕ) (i w z : ℕ) → get_or t i 0 ≡ 0 → Lowest t i (w / 2) z → Lowest t (suc i) w (suc z)
lowest_next t i w z e h =
    let a : i - z - 1 ≡ suc i - suc z - 1 = omega arith in
    let b : i - z ≡ suc i - suc z = omega arith in
    let d : 1 + z ≡ suc z = omega arith in
    record {
      below = omega (arith, h.below);
      here = λ g. h.here (ap (λ (k : ℕ). get_or t k 0) a ∙ g);
      rest = ap (λ (x : ℕ). x / 2) (ap (λ (k : ℕ). w / 2 ^ k) (sym d) ∙ sym (shr-shr w 1 z)) ∙ h.rest ∙ ap (λ (k : ℕ). present (take k t)) a;
      absent = subst (λ (k : ℕ). Absent t k (suc i)) b (absent_more h.absent e);
    }

-- the count of trailing zeros finds it
pub lowest : (t : List ℕ) (d i w : ℕ) → i ≤ length t → w ≡ present (take i t) → (w ≡ 0 → ⊥) → w < 2 ^ d → Lowest t i w (count_trailing_zeros d w)
unfolding count_trailing_zeros present mark
lowest t zero i w l e some f = absurd (some (omega arith))
lowest t (suc d) zero w l e some f = absurd (some e)
lowest t (suc d) (suc i) w l e some f = by (get_or t i 0) refl (lowest t d i (w / 2))
  where
    w_is : w ≡ 2 * present (take i t) + mark (get_or t i 0)
    w_is = e ∙ present_suc t i l

    by : (c : ℕ) → get_or t i 0 ≡ c → (i ≤ length t → w / 2 ≡ present (take i t) → (w / 2 ≡ 0 → ⊥) → w / 2 < 2 ^ d → Lowest t i (w / 2) (count_trailing_zeros d (w / 2)))
        → Lowest t (suc i) w (under (w % 2) (count_trailing_zeros d (w / 2)))
    by zero q next =
        let z : mark (get_or t i 0) ≡ 0 = ap mark q in
        let even : w % 2 ≡ 0 = omega (arith, w_is, z) in
        let half : w / 2 ≡ present (take i t) = omega (arith, w_is, z) in
        let more : w / 2 ≡ 0 → ⊥ = λ h. some (omega arith) in
        let fits : w / 2 < 2 ^ d = omega (arith, pow-suc 2 d) in
        subst (λ (r : ℕ). Lowest t (suc i) w (under r (count_trailing_zeros d (w / 2)))) (sym even)
        (lowest_next t i w (count_trailing_zeros d (w / 2)) q (next (omega arith) half more fits))
    by (suc c) q next =
        let o : mark (get_or t i 0) ≡ 1 = ap mark q in
        let odd : w % 2 ≡ 1 = omega (arith, w_is, o) in
        subst (λ (r : ℕ). Lowest t (suc i) w (under r (count_trailing_zeros d (w / 2)))) (sym odd)
        (lowest_here t i w (λ g. none (sym q ∙ g)) (omega (arith, w_is, o)))
      where
        none : suc c ≡ 0 → ⊥
        none g = omega arith

-- the last letter that is there among the first i: the letters up to it, and the word of those before it
pub record RunAt (t : List ℕ) (i stop rest : ℕ) : Type 0 where
  pub some : stop ≡ 0 → ⊥
  pub inside : stop ≤ i
  pub here : get_or t (stop - 1) 0 ≡ 0 → ⊥
  pub absent : Absent t stop i
  pub before : rest ≡ present (take (stop - 1) t)

-- the same with its count, and with the letters before it: `left` of those of `rest`
pub record SplitsAt (t : List ℕ) (i stop count : ℕ) (rest : List ℕ) (left : ℕ) : Type 0 where
  pub some : stop ≡ 0 → ⊥
  pub inside : stop ≤ i
  pub absent : Absent t stop i
  pub counted : count ≡ get_or t (stop - 1) 0
  pub here : 0 < count
  pub same : rest ≡ t
  pub before : left ≡ stop - 1

pub run_splits : {t : List ℕ} {i stop count rest : ℕ} → RunAt t i stop rest → count ≡ get_or t (stop - 1) 0 → SplitsAt t i stop count t (stop - 1)
run_splits {t} {i} {stop} {count} h e = record { some = h.some; inside = h.inside; absent = h.absent; counted = e; here = pos_of count (λ z. h.here (sym e ∙ z)); same = refl; before = refl }
  where
    pos_of : (k : ℕ) → (k ≡ 0 → ⊥) → 0 < k
    pos_of zero f = absurd (f refl)
    pos_of (suc k) f = omega arith

pub lowest_run : {t : List ℕ} {i w z : ℕ} → Lowest t i w z → RunAt t i (i - z) (w / 2 ^ z / 2)
lowest_run {t} {i} {w} {z} h =
    record {
      some = λ e. no_letter e h.below;
      inside = omega arith;
      here = h.here;
      absent = h.absent;
      before = h.rest;
    }
  where
    no_letter : i - z ≡ 0 → z < i → ⊥
    no_letter e l = omega arith

-- a word that is not empty has a bit among its digits
pub trailing_lt : (d w : ℕ) → w < 2 ^ d → (w ≡ 0 → ⊥) → count_trailing_zeros d w < d
unfolding count_trailing_zeros
trailing_lt zero w f some = absurd (some (omega arith))
trailing_lt (suc d) w f some = by (w % 2) refl (trailing_lt d (w / 2))
  where
    by : (r : ℕ) → w % 2 ≡ r → (w / 2 < 2 ^ d → (w / 2 ≡ 0 → ⊥) → count_trailing_zeros d (w / 2) < d) → under r (count_trailing_zeros d (w / 2)) < suc d
    by zero e next =
        let fits : w / 2 < 2 ^ d = omega (arith, pow-suc 2 d) in
        let l = next fits (λ h. some (omega arith)) in
        omega arith
    by (suc r) e next = omega arith

-- the count of ones is 0 for an empty word alone
pub ones_none : (d w : ℕ) → w < 2 ^ d → ones w ≡ 0 → w ≡ 0
ones_none zero w f e = omega arith
ones_none (suc d) w f e =
    let s = ones_step w in
    let fits : w / 2 < 2 ^ d = omega (arith, pow-suc 2 d) in
    let half : w / 2 ≡ 0 = ones_none d (w / 2) fits (omega (arith, s)) in
    omega (arith, s, half)

pub word_none : {t : List ℕ} {i w : ℕ} → i ≤ length t → w ≡ present (take i t) → ones w ≡ 0 → Absent t 0 i
word_none {t} {i} {w} l e o = none_present t i l (sym e ∙ ones_none (length (take i t)) w (rw e (present_below (take i t))) o)

pub ones_some : {w : ℕ} → (ones w ≡ 0 → ⊥) → w ≡ 0 → ⊥
unfolding ones ones_in
ones_some f e = f (ap ones e)

-- ---- letters that are not there change nothing

-- what holds of the first j letters holds of the first i, and back, where no letter between is there
module _ (t : List ℕ) (P : ℕ → Type 0) where
  up : ((i : ℕ) → i < length t → get_or t i 0 ≡ 0 → P i → P (suc i)) → (j z : ℕ) → j + z ≤ length t → Absent t j (j + z) → P j → P (j + z)
  up one j zero l h g = subst P (sym (add-zero j)) g
  up one j (suc z) l h g =
      let e = add-suc j z in
      let a : Absent t j (suc (j + z)) = subst (Absent t j) e h in
      let l' : j + z < length t = omega arith in
      subst P (sym e) (one (j + z) l' (a.none (j + z) (omega arith) (omega arith)) (up one j z (omega arith) (absent_less a) g))

  down : ((i : ℕ) → get_or t i 0 ≡ 0 → P (suc i) → P i) → (j z : ℕ) → Absent t j (j + z) → P (j + z) → P j
  down one j zero h r = subst P (add-zero j) r
  down one j (suc z) h r =
      let e = add-suc j z in
      let a : Absent t j (suc (j + z)) = subst (Absent t j) e h in
      down one j z (absent_less a) (one (j + z) (a.none (j + z) (omega arith) (omega arith)) (subst P e r))

  pub over : ((i : ℕ) → i < length t → get_or t i 0 ≡ 0 → P i → P (suc i)) → {j i : ℕ} → j ≤ i → i ≤ length t → Absent t j i → P j → P i
  over one {j} {i} h l a g =
      let e : j + (i - j) ≡ i = omega arith in
      subst P e (up one j (i - j) (omega arith) (subst (Absent t j) (sym e) a) g)

  pub back : ((i : ℕ) → get_or t i 0 ≡ 0 → P (suc i) → P i) → {j i : ℕ} → j ≤ i → Absent t j i → P i → P j
  back one {j} {i} h a r =
      let e : j + (i - j) ≡ i = omega arith in
      down one j (i - j) (subst (Absent t j) (sym e) a) (subst P (sym e) r)

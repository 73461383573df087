-- Tiles in the order of their letters: how many are of letters below one, and the tally of the letters from 1 on. Assumes nothing.
use Rattle.std.specs.Prelude.{◌≡◌, refl, Bool, true, false, cond, List, [], ◌∷◌, ℕ, zero, suc, ◌+◌, ◌-◌, ◌*◌, ◌^◌, ◌≤◌, ◌<◌, eqb, length, get_or, set, take, replicate}
use Rattle.std.proofs.Common.{sym, ap, ◌∙◌, not-suc-le-zero, lt_of_lt_of_le, add-one, arith, eq-eqb, ne_eqb, length-set, pow_mono, length-take-le, take-suc, get_or-set_same, get_or-set_other}
use Rattle.std.proofs.Math.Decide.{ℕ_discrete, dec_lt, le_ind}
use Rattle.std.proofs.Math.Seq.{take-length}
use Rattle.runs.specs.Runs.{mark, present, present_below, Absent, over}
use Rattle.blanks.specs.Variants.{count}
use Rattle.blanks.specs.Choices.{count_append}

pub count_cons : (l x : ℕ) (xs : List ℕ) → count l (x ∷ xs) ≡ cond (eqb l x) (suc (count l xs)) (count l xs)
unfolding count
count_cons l x xs = refl

count_none : (l : ℕ) → count l [] ≡ 0
unfolding count
count_none l = refl

count_le : (l : ℕ) (xs : List ℕ) → count l xs ≤ length xs
count_le l [] = rw count_none (omega arith)
count_le l (x ∷ xs) = rw count_cons (by (eqb l x) (count_le l xs))
  where
    by : (b : Bool) → count l xs ≤ length xs → cond b (suc (count l xs)) (count l xs) ≤ suc (length xs)
    by true h = omega arith
    by false h = omega arith

-- ---- the letters below one

-- how many tiles have a letter below i
unfoldable pub counted : ℕ → List ℕ → ℕ
counted zero xs = 0
counted (suc l) xs = counted l xs + count l xs

pub counted_suc : (l : ℕ) (xs : List ℕ) → counted (suc l) xs ≡ counted l xs + count l xs
unfolding counted
counted_suc l xs = refl

pub counted_mono : {i j : ℕ} (xs : List ℕ) → i ≤ j → counted i xs ≤ counted j xs
counted_mono {i} {j} xs h = le_ind (λ (k : ℕ). counted i xs ≤ counted k xs) (omega arith) (λ (k : ℕ) (l : i ≤ k) e. rw counted_suc (omega arith)) j h

counted_nil : (i : ℕ) → counted i [] ≡ 0
unfolding counted count
counted_nil zero = refl
counted_nil (suc l) = rw (counted_nil l)

pub counted_high : (i x : ℕ) (xs : List ℕ) → i ≤ x → counted i (x ∷ xs) ≡ counted i xs
unfolding counted
counted_high zero x xs h = refl
counted_high (suc l) x xs h =
    let f : l ≡ x → ⊥ = (λ e. omega arith) in
    rw (count_cons, ne_eqb l x f, counted_high l x xs (omega arith))

pub counted_low : (i x : ℕ) (xs : List ℕ) → x < i → counted i (x ∷ xs) ≡ suc (counted i xs)
unfolding counted
counted_low zero x xs h = absurd (not-suc-le-zero h)
counted_low (suc l) x xs h = by (ℕ_discrete l x) (counted_low l x xs)
  where
    by : Dec (l ≡ x) → (x < l → counted l (x ∷ xs) ≡ suc (counted l xs)) → counted l (x ∷ xs) + count l (x ∷ xs) ≡ suc (counted l xs + count l xs)
    by (yes e) rest = rw (count_cons, eq-eqb l x e, counted_high l x xs (omega arith)) (omega arith)
    by (no f) rest = rw (count_cons, ne_eqb l x f, rest (omega arith)) (omega arith)

pub counted_all : (i : ℕ) (xs : List ℕ) → counted i xs ≤ length xs
counted_all i [] = rw counted_nil (omega arith)
counted_all i (x ∷ xs) = by (dec_lt x i) (counted_all i xs)
  where
    by : Dec (x < i) → counted i xs ≤ length xs → counted i (x ∷ xs) ≤ suc (length xs)
    by (yes h) rest = rw (counted_low i x xs h) (omega arith)
    by (no h) rest = rw (counted_high i x xs (omega arith)) (omega arith)

-- all of them, and none
pub counted_whole : (i : ℕ) (xs : List ℕ) → ((j : ℕ) → j < length xs → get_or xs j 0 < i) → counted i xs ≡ length xs
counted_whole i [] h = counted_nil i
counted_whole i (x ∷ xs) h = rw (counted_low i x xs (h 0 (omega arith)), counted_whole i xs (λ j l. h (suc j) (omega arith)))

counted_none : (i : ℕ) (xs : List ℕ) → ((j : ℕ) → j < length xs → i ≤ get_or xs j 0) → counted i xs ≡ 0
counted_none i [] h = counted_nil i
counted_none i (x ∷ xs) h = rw (counted_high i x xs (h 0 (omega arith)), counted_none i xs (λ j l. h (suc j) (omega arith)))

-- ---- in order, they stand first

abbrev pub InOrder : List ℕ → Type 0
InOrder xs = (a b : ℕ) → a ≤ b → b < length xs → get_or xs a 0 ≤ get_or xs b 0

order_tail : (x : ℕ) (xs : List ℕ) → InOrder (x ∷ xs) → InOrder xs
order_tail x xs o a b h l = o (suc a) (suc b) (omega arith) (omega arith)

order_none : (i x : ℕ) (xs : List ℕ) → InOrder (x ∷ xs) → i ≤ x → counted i (x ∷ xs) ≡ 0
order_none i x xs o h = counted_none i (x ∷ xs) (λ j l. let k : x ≤ get_or (x ∷ xs) j 0 = o 0 j (omega arith) l in omega arith)

pub counted_below : (i : ℕ) (xs : List ℕ) → InOrder xs → (j : ℕ) → j < counted i xs → get_or xs j 0 < i
counted_below i [] o j h = absurd (let e = counted_nil i in omega arith)
counted_below i (x ∷ xs) o j h = by (dec_lt x i) j h (counted_below i xs (order_tail x xs o))
  where
    by : Dec (x < i) → (j : ℕ) → j < counted i (x ∷ xs) → ((k : ℕ) → k < counted i xs → get_or xs k 0 < i) → get_or (x ∷ xs) j 0 < i
    by (yes l) zero h rest = l
    by (yes l) (suc j) h rest = rest j (let e = counted_low i x xs l in omega arith)
    by (no l) j h rest = absurd (let e = order_none i x xs o (omega arith) in omega arith)

pub counted_above : (i : ℕ) (xs : List ℕ) → InOrder xs → (j : ℕ) → counted i xs ≤ j → j < length xs → i ≤ get_or xs j 0
counted_above i [] o j h l = absurd (not-suc-le-zero l)
counted_above i (x ∷ xs) o j h l = by (dec_lt x i) j h l (counted_above i xs (order_tail x xs o))
  where
    by : Dec (x < i) → (j : ℕ) → counted i (x ∷ xs) ≤ j → j < suc (length xs) → ((k : ℕ) → counted i xs ≤ k → k < length xs → i ≤ get_or xs k 0) → i ≤ get_or (x ∷ xs) j 0
    by (yes k) zero h l rest = absurd (let e = counted_low i x xs k in omega arith)
    by (yes k) (suc j) h l rest = rest j (let e = counted_low i x xs k in omega arith) (omega arith)
    by (no k) j h l rest = let m : x ≤ get_or (x ∷ xs) j 0 = o 0 j (omega arith) l in omega arith

-- ---- the tally

-- how many tiles each letter from 1 on has
pub record Tallied (xs tally : List ℕ) : Type 0 where
  pub counts : (l : ℕ) → l < length tally → get_or tally l 0 ≡ count (suc l) xs

-- letters that are not there count nothing
pub counted_absent : {xs tally : List ℕ} {j i : ℕ} → Tallied xs tally → j ≤ i → i ≤ length tally → Absent tally j i → counted (suc i) xs ≡ counted (suc j) xs
counted_absent {xs} {tally} {j} t h l a = over tally (λ i. counted (suc i) xs ≡ counted (suc j) xs) one h l a refl
  where
    one : (i : ℕ) → i < length tally → get_or tally i 0 ≡ 0 → counted (suc i) xs ≡ counted (suc j) xs → counted (suc (suc i)) xs ≡ counted (suc j) xs
    one i k e r = let c = t.counts i k in rw (counted_suc (suc i) xs) (omega arith)

-- one tile more of the letter at x, with p letters after it: its bit is new where it had none
pub present_more : (t : List ℕ) (x p : ℕ) → p + suc x ≡ length t → present (set t x (get_or t x 0 + 1)) ≡ present t + (1 - mark (get_or t x 0)) * 2 ^ p
unfolding present mark
present_more [] x p e = absurd (omega arith)
present_more (zero ∷ cs) zero p e =
    let q : p ≡ length cs = omega arith in
    rw q (omega arith)
present_more (suc c ∷ cs) zero p e = rw (add-one (suc c)) (omega arith)
present_more (c ∷ cs) (suc x) p e =
    let r = present_more cs x p (omega arith) in
    omega (arith, r, ap (λ (k : ℕ). mark c * 2 ^ k) (length-set cs x (get_or cs x 0 + 1)))

-- the word fits
pub present_room : (t : List ℕ) (x p : ℕ) → p + suc x ≡ length t → length t ≤ 64 → present t + (1 - mark (get_or t x 0)) * 2 ^ p < 2 ^ 64
present_room t x p e h =
    rw (← present_more t x p e)
    (lt_of_lt_of_le (present_below (set t x (get_or t x 0 + 1))) (pow_mono {j = 64} (rw length-set h)))

pub present_zeros : (n : ℕ) → present (replicate n 0) ≡ 0
unfolding present mark
present_zeros zero = refl
present_zeros (suc n) = omega (arith, present_zeros n)

-- the tally of the first j tiles, as a loop makes it
pub record Tallying (xs : List ℕ) (m j : ℕ) (tally : List ℕ) : Type 0 where
  pub letters : length tally ≡ m
  pub to : j ≤ length xs
  pub done : Tallied (take j xs) tally

pub tallying_none : (xs tally : List ℕ) → ((l : ℕ) → l < length tally → get_or tally l 0 ≡ 0) → Tallying xs (length tally) 0 tally
tallying_none xs tally z = record { letters = refl; to = omega arith; done = record { counts = λ l h. z l h ∙ sym (count_none (suc l)) } }

module _ {xs tally : List ℕ} {m j : ℕ} (here : Tallying xs m j tally) where
  pub tallying_all : length xs ≤ j → Tallied xs tally
  tallying_all h =
      let t = here.to in
      let e : j ≡ length xs = omega arith in
      rw (e, take-length) at here.done

  module _ (h : j < length xs) {x : ℕ} (is : get_or xs j 0 ≡ suc x) (low : x < m) where
    pub tallying_room : x < length tally
    tallying_room = rw here.letters low

    pub tallying_small : get_or tally x 0 ≤ length xs
    tallying_small =
        let c = here.done.counts x tallying_room in
        let f = count_le (suc x) (take j xs) in
        omega (arith, length-take-le j xs here.to)

    one_more : (l : ℕ) → count l (take (j + 1) xs) ≡ count l (take j xs) + cond (eqb l (suc x)) 1 0
    one_more l = rw (add-one, take-suc xs j 0 h, count_append, is, count_cons, count_none)

    pub tallying_more : Tallying xs m (j + 1) (set tally x (get_or tally x 0 + 1))
    tallying_more =
        record {
          letters = length-set tally x _ ∙ here.letters;
          to = omega arith;
          done = record { counts = λ l k. by l (rw length-set at k) (ℕ_discrete l x) };
        }
      where
        by : (l : ℕ) → l < length tally → Dec (l ≡ x) → get_or (set tally x (get_or tally x 0 + 1)) l 0 ≡ count (suc l) (take (j + 1) xs)
        by l k (yes e) =
            rw (e, get_or-set_same tally x (get_or tally x 0 + 1) 0 tallying_room, one_more (suc x), eq-eqb (suc x) (suc x) refl, here.done.counts x tallying_room)
        by l k (no f) =
            let g : suc l ≡ suc x → ⊥ = (λ e. f (omega arith)) in
            rw (get_or-set_other tally x l (get_or tally x 0 + 1) 0 f, one_more (suc l), ne_eqb (suc l) (suc x) g, here.done.counts l k) (omega arith)

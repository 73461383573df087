-- One letter's pass over the multisets of one size, the letters before k chosen: what it asks, what it leaves, and that one count of the
-- letter k after another makes up the whole. Assumes nothing.
use Rattle.std.specs.Prelude.{◌≡◌, refl, ◌⊎◌, List, [], ◌∷◌, ℕ, suc, ◌+◌, ◌-◌, ◌≤◌, ◌<◌, Float, length, get_or, set}
use Rattle.std.proofs.Common.{sym, ap, ap₂, ◌∙◌, inl, inr, length-set, get_or-set_same, get_or-set_other, le_refl, suc-ne-zero, add-one, arith}
use Rattle.std.specs.Float.{nan, binary64}
use Rattle.std.specs.Float.Ieee.{add}
use Rattle.std.proofs.Math.Nat.{suc_inj, eq-or-lt_of_le}
use Rattle.std.proofs.Math.Decide.{ℕ_discrete}
use Rattle.binomials.specs.Binomial.{binomial}
use Rattle.lattice.specs.Tally.{total, within, add_tile, total_cons, start_suc}
use Rattle.lattice.specs.Tallies.{count, count_suc, Fits, within_bump}
use Rattle.lattice.specs.Step.{step}
use Rattle.lattice.specs.Rank.{length_add_tile, total_add_tile}
use Rattle.search.specs.Counts.{at_most, count_is, start_with_count, step_counts}
use Rattle.fused.specs.Deal.{steps_apart, step_room, within_below, headed}

-- a becomes b: each of size entries from w on is more by the entry as far from v on, and the rest is as it was
pub record Lifted (w v size : ℕ) (a b : List Float) : Type 0 where
  pub long : length b ≡ length a
  pub inside : (j : ℕ) → j < size → get_or b (w + j) nan ≡ add binary64 (get_or a (w + j) nan) (get_or a (v + j) nan)
  pub outside : (i : ℕ) → (i < w) ⊎ (w + size ≤ i) → get_or b i nan ≡ get_or a i nan

-- a becomes b: each tally of m letters and rem tiles, which stand from w on, is more by that with one tile more of letter t, from v on
pub record Gained (m t rem w v : ℕ) (a b : List Float) : Type 0 where
  pub long : length b ≡ length a
  pub inside : (q : List ℕ) → Fits m rem q → get_or b (w + within q) nan ≡ add binary64 (get_or a (w + within q) nan) (get_or a (v + within (add_tile q t)) nan)
  pub outside : (i : ℕ) → (i < w) ⊎ (w + count m rem ≤ i) → get_or b i nan ≡ get_or a i nan

-- the same with the counts of the first of m + 1 letters below c done
pub record Turned (m t rem w v c : ℕ) (a b : List Float) : Type 0 where
  pub long : length b ≡ length a
  pub done : (x : ℕ) (q : List ℕ) → x < c → Fits (suc m) rem (x ∷ q) → get_or b (w + within (x ∷ q)) nan ≡ add binary64 (get_or a (w + within (x ∷ q)) nan) (get_or a (v + within (x ∷ add_tile q t)) nan)
  pub undone : (x : ℕ) (q : List ℕ) → c ≤ x → Fits (suc m) rem (x ∷ q) → get_or b (w + within (x ∷ q)) nan ≡ get_or a (w + within (x ∷ q)) nan
  pub outside : (i : ℕ) → (i < w) ⊎ (w + count (suc m) rem ≤ i) → get_or b i nan ≡ get_or a i nan

-- what the walk asks: letter t is not before k, and the tallies with one tile more stand after the others, within the table
pub record Gaining (n t k rem w v size : ℕ) : Type 0 where
  pub letter : t < n
  pub from : k ≤ t
  pub few : n ≤ 64
  pub tiles : rem < 15
  pub apart : w + count (n - k) rem ≤ v
  pub room : v + count (n - k) (suc rem) ≤ size

-- ---- a run, entry after entry

pub lifted_none : (w v : ℕ) (a : List Float) → Lifted w v 0 a a
lifted_none w v a = record { long = refl; inside = λ j h. absurd (none j h); outside = λ i h. refl }
  where
    none : (j : ℕ) → j < 0 → ⊥
    none j h = omega arith

pub lifted_more : {w v j : ℕ} {a b : List Float} → w + j < length b → w + j ≤ v → Lifted w v j a b → Lifted w v (suc j) a (set b (w + j) (add binary64 (get_or b (w + j) nan) (get_or b (v + j) nan)))
lifted_more {w} {v} {j} {a} {b} h k l = record { long = length-set b (w + j) x ∙ l.long; inside = λ i q. at i q (ℕ_discrete i j); outside = λ i q. get_or-set_other b (w + j) i x nan (apart i q) ∙ l.outside i (wider i q) }
  where
    x : Float
    x = add binary64 (get_or b (w + j) nan) (get_or b (v + j) nan)

    apart : (i : ℕ) → (i < w) ⊎ (w + suc j ≤ i) → i ≡ w + j → ⊥
    apart i (inl q) e = omega arith
    apart i (inr q) e = omega arith

    wider : (i : ℕ) → (i < w) ⊎ (w + suc j ≤ i) → (i < w) ⊎ (w + j ≤ i)
    wider i (inl q) = inl q
    wider i (inr q) = inr (omega arith)

    same : get_or (set b (w + j) x) (w + j) nan ≡ add binary64 (get_or a (w + j) nan) (get_or a (v + j) nan)
    same = get_or-set_same b (w + j) x nan h ∙ ap₂ (add binary64) (l.outside (w + j) (inr (le_refl (w + j)))) (l.outside (v + j) (inr (omega arith)))

    at : (i : ℕ) → i < suc j → Dec (i ≡ j) → get_or (set b (w + j) x) (w + i) nan ≡ add binary64 (get_or a (w + i) nan) (get_or a (v + i) nan)
    at i q (yes e) = rw e same
    at i q (no e) = get_or-set_other b (w + j) (w + i) x nan (λ f. e (omega arith)) ∙ l.inside i (omega arith)

-- ---- one tile more

add_first : (c : ℕ) (cs : List ℕ) → add_tile (c ∷ cs) 0 ≡ suc c ∷ cs
unfolding add_tile
add_first c cs = refl

add_next : (c : ℕ) (cs : List ℕ) (t : ℕ) → add_tile (c ∷ cs) (suc t) ≡ c ∷ add_tile cs t
unfolding add_tile
add_next c cs t = refl

pub fits_more : (m rem t : ℕ) (q : List ℕ) → t < m → Fits m rem q → Fits m (suc rem) (add_tile q t)
fits_more m rem t q h f =
    let l : t < length q = omega (arith, f.letters) in
    record { letters = length_add_tile q t ∙ f.letters; tiles = total_add_tile q t l ∙ ap suc f.tiles }

-- ---- the letter itself: a run of ranks

at_most_is : (n s : ℕ) → at_most n s ≡ binomial (s + n) n
unfolding at_most
at_most_is n s = refl

-- the tallies with none of the first letter
pub first_step : (m rem : ℕ) → step m (suc rem) 1 ≡ count m (suc rem)
first_step m rem =
    let e : suc rem - 1 ≡ rem = omega arith in
    omega (arith, step_counts m (suc rem) 1, ap (at_most m) e, start_with_count m (suc rem), start_suc m rem, at_most_is m rem)

pub gained_run : (m rem w v : ℕ) {size to : ℕ} (a b : List Float) → size ≡ binomial (rem + m) m → to ≡ v + step m (suc rem) 1 → Lifted w to size a b → Gained (suc m) 0 rem w v a b
gained_run m rem w v {size} {to} a b s p l = record { long = l.long; inside = at; outside = λ i h. l.outside i (off i h) }
  where
    size_is : size ≡ count (suc m) rem
    size_is = s ∙ sym (at_most_is m rem) ∙ sym (count_is m rem)

    off : (i : ℕ) → (i < w) ⊎ (w + count (suc m) rem ≤ i) → (i < w) ⊎ (w + size ≤ i)
    off i (inl h) = inl h
    off i (inr h) = inr (omega (arith, size_is))

    at : (q : List ℕ) → Fits (suc m) rem q → get_or b (w + within q) nan ≡ add binary64 (get_or a (w + within q) nan) (get_or a (v + within (add_tile q 0)) nan)
    at [] f = absurd (suc-ne-zero m (sym f.letters))
    at (c ∷ cs) f =
        let n : length cs ≡ m = suc_inj f.letters in
        let s : c + total cs ≡ rem = sym (total_cons c cs) ∙ f.tiles in
        let e : within (add_tile (c ∷ cs) 0) ≡ count m (suc rem) + within (c ∷ cs) =
        ap within (add_first c cs) ∙ within_bump c cs ∙ ap₂ (λ (i j : ℕ). count i (suc j) + within (c ∷ cs)) n s in
        let g : to + within (c ∷ cs) ≡ v + within (add_tile (c ∷ cs) 0) = omega (arith, first_step m rem, p) in
        l.inside (within (c ∷ cs)) (omega (arith, within_below (suc m) rem (c ∷ cs) f, size_is))
        ∙ ap (λ (i : ℕ). add binary64 (get_or a (w + within (c ∷ cs)) nan) (get_or a i nan)) g

-- ---- the letters before it: one count after another

pub turned_none : (m t rem w v : ℕ) (a : List Float) → Turned m t rem w v 0 a a
turned_none m t rem w v a = record { long = refl; done = λ x q h f. absurd (none x h); undone = λ x q h f. refl; outside = λ i h. refl }
  where
    none : (x : ℕ) → x < 0 → ⊥
    none x h = omega arith

module _ (m t rem w v : ℕ) (letter : t < m) (apart : w + count (suc m) rem ≤ v) where
  pub turned_more : (c : ℕ) (a b b' : List Float) → c ≤ rem → Turned m t rem w v c a b
      → Gained m t (rem - c) (w + step m rem c) (v + step m (suc rem) c) b b' → Turned m t rem w v (suc c) a b'
  turned_more c a b b' hr s d = record {
    long = d.long ∙ s.long;
    done = λ x q h f. at x q f (eq-or-lt_of_le (omega arith));
    undone = λ x q h f. let g = headed m rem x q f in d.outside _ (inr (rw g.place (omega (arith, steps_apart m rem c x h g.few)))) ∙ s.undone x q (omega arith) f;
    outside = λ i h. d.outside i (off i h) ∙ s.outside i h;
  }
    where
      off : (i : ℕ) → (i < w) ⊎ (w + count (suc m) rem ≤ i) → (i < w + step m rem c) ⊎ (w + step m rem c + count m (rem - c) ≤ i)
      off i (inl h) = inl (omega arith)
      off i (inr h) = inr (omega (arith, step_room m rem c hr))

      -- the entry of the tally with one tile more is as it was
      target : (q : List ℕ) → Fits m (rem - c) q → get_or b (v + step m (suc rem) c + within (add_tile q t)) nan ≡ get_or a (v + within (c ∷ add_tile q t)) nan
      target q f =
          let less : suc (rem - c) ≡ suc rem - c = omega arith in
          let k = fits_more m (rem - c) t q letter f in
          let whole : Fits (suc m) (suc rem) (c ∷ add_tile q t) = record { letters = ap suc k.letters; tiles = total_cons c (add_tile q t) ∙ omega (arith, k.tiles) } in
          let e : v + step m (suc rem) c + within (add_tile q t) ≡ v + within (c ∷ add_tile q t) = omega (arith, (headed m (suc rem) c (add_tile q t) whole).place) in
          ap (λ (i : ℕ). get_or b i nan) e ∙ s.outside (v + within (c ∷ add_tile q t)) (inr (omega arith))

      same : (q : List ℕ) → Fits (suc m) rem (c ∷ q) → get_or b' (w + within (c ∷ q)) nan ≡ add binary64 (get_or a (w + within (c ∷ q)) nan) (get_or a (v + within (c ∷ add_tile q t)) nan)
      same q f =
          let g = headed m rem c q f in
          let e : w + within (c ∷ q) ≡ w + step m rem c + within q = omega (arith, g.place) in
          ap (λ (k : ℕ). get_or b' k nan) e
          ∙ d.inside q g.tail
          ∙ ap₂ (add binary64) (ap (λ (k : ℕ). get_or b k nan) (sym e) ∙ s.undone c q (le_refl c) f) (target q g.tail)

      at : (x : ℕ) (q : List ℕ) → Fits (suc m) rem (x ∷ q) → (x ≡ c) ⊎ (x < c) → get_or b' (w + within (x ∷ q)) nan ≡ add binary64 (get_or a (w + within (x ∷ q)) nan) (get_or a (v + within (x ∷ add_tile q t)) nan)
      at x q f (inr l) =
          let g = headed m rem x q f in
          d.outside _ (inl (rw g.place (omega (arith, steps_apart m rem x c l hr, within_below m (rem - x) q g.tail)))) ∙ s.done x q l f
      at x q f (inl e) = rw e (same q (rw e at f))

  -- after the last count
  pub turned_all : (c : ℕ) (a b : List Float) → rem < c → Turned m t rem w v c a b → Gained (suc m) (suc t) rem w v a b
  turned_all c a b l s = record { long = s.long; inside = at; outside = s.outside }
    where
      at : (q : List ℕ) → Fits (suc m) rem q → get_or b (w + within q) nan ≡ add binary64 (get_or a (w + within q) nan) (get_or a (v + within (add_tile q (suc t))) nan)
      at [] f = absurd (suc-ne-zero m (sym f.letters))
      at (x ∷ q) f =
          let h = (headed m rem x q f).few in
          s.done x q (omega arith) f ∙ ap (λ (u : List ℕ). add binary64 (get_or a (w + within (x ∷ q)) nan) (get_or a (v + within u) nan)) (sym (add_next x q t))

-- ---- what the walk's calls ask and give

module _ {n t k rem w v size : ℕ} (g : Gaining n t k rem w v size) where
  abbrev after : ℕ
  after = n - k - 1

  letters_left : n - k ≡ suc after
  letters_left = omega (arith, g.letter, g.from)

  pub after_few : after ≤ 64
  after_few = omega (arith, g.few)

  pub apart_there : w + count (suc after) rem ≤ v
  apart_there = rw letters_left at g.apart

  pub room_there : v + count (suc after) (suc rem) ≤ size
  room_there = rw letters_left at g.room

  -- letter t itself
  module _ (here : k ≡ t) {s to : ℕ} (s-is : s ≡ binomial (rem + after) after) (to_is : to ≡ v + step after (rem + 1) 1) where
    to_more : to ≡ v + step after (suc rem) 1
    to_more = to_is ∙ ap (λ (x : ℕ). v + step after x 1) (add-one rem)

    pub run_fits : (w + s ≤ to) × (to + s ≤ size)
    run_fits =
        let e : s ≡ count (suc after) rem = s-is ∙ sym (at_most_is after rem) ∙ sym (count_is after rem) in
        (omega (arith, apart_there, to_more, e), omega (arith, room_there, to_more, e, first_step after rem, count_suc after rem))

    pub run_done : {a b : List Float} → Lifted w to s a b → Gained (n - k) (t - k) rem w v a b
    run_done {a} {b} l =
        let z : t - k ≡ 0 = omega arith in
        rw (letters_left, z) (gained_run after rem w v a b s-is to_more l)

  -- a letter before it
  module _ (other : k ≡ t → ⊥) where
    later : t - k ≡ suc (t - (k + 1))
    later = omega (arith, g.from)

    inside : t - (k + 1) < after
    inside = omega (arith, g.from, g.letter)

    next_letters : n - (k + 1) ≡ after
    next_letters = omega arith

    module _ {c a b : ℕ} (l : c < rem + 1) (a-is : a ≡ w + step after rem c) (b-is : b ≡ v + step after (rem + 1) c) where
      few : c ≤ rem
      few = omega arith

      b_more : b ≡ v + step after (suc rem) c
      b_more = b-is ∙ ap (λ (x : ℕ). v + step after x c) (add-one rem)

      pub next_fits : Gaining n t (k + 1) (rem - c) a b size
      next_fits =
          let one : suc rem - c ≡ suc (rem - c) = omega (arith, few) in
          let x = step_room after rem c few in
          let y = step_room after (suc rem) c (omega (arith, few)) in
          record {
            letter = g.letter;
            from = omega (arith, g.from);
            few = g.few;
            tiles = omega (arith, g.tiles);
            apart = rw next_letters (omega (arith, apart_there, x, a-is, b_more));
            room = rw (next_letters, ← one) (omega (arith, room_there, y, b_more));
          }

      pub next_small : (a ≤ size) × (b ≤ size)
      next_small =
          let x = step_room after rem c few in
          let y = step_room after (suc rem) c (omega (arith, few)) in
          (omega (arith, apart_there, room_there, x, a-is), omega (arith, room_there, y, b_more))

      pub next_turn : {xs ys zs : List Float} → Turned after (t - (k + 1)) rem w v c xs ys → Gained (n - (k + 1)) (t - (k + 1)) (rem - c) a b ys zs → Turned after (t - (k + 1)) rem w v (c + 1) xs zs
      next_turn {xs} {ys} {zs} s d =
          rw (add-one c) (turned_more after (t - (k + 1)) rem w v inside apart_there c xs ys zs few s (rw (next_letters, a-is, b_more) at d))

    pub all_turns : {c : ℕ} {xs ys : List Float} → c ≡ rem + 1 → Turned after (t - (k + 1)) rem w v c xs ys → Gained (n - k) (t - k) rem w v xs ys
    all_turns {c} {xs} {ys} e s = rw (letters_left, later) (turned_all after (t - (k + 1)) rem w v inside apart_there c xs ys (omega arith) s)

-- The laws of the walk over the parts of a leave: what each call asks, what the turns of the loop over a letter's count add, and that
-- letters which are not there change neither. Assumes nothing.
use mathlib.Core.Path.{◌≡◌, refl, sym, ap, ◌∙◌, subst, transport}
use mathlib.Core.Bool.{Bool, true, false, cond}
use mathlib.Core.List.{List, [], ◌∷◌, ◌++◌}
use Prim.Native.Nat.{ℕ, zero, suc, ◌+◌, ◌-◌, ◌^◌, ◌≤◌, ◌<◌}
use native.Mathlib.Nat.{add-zero, add-suc, le_refl}
use native.Mathlib.Numerals.{add-one}
use native.Mathlib.Omega.{arith}
use lib.Dec.{ltb}
use lib.Ieee.{Float, nan, binary64, add}
use lib.ListN.{length, get_or, set, take, drop, take-append-drop}
use lib.Seq.{set_out}
use Rattle.laws.specs.Lists.{upto, concat_map, upto_zero, upto_suc, map_append, concat_map_append, concat_map_one}
use Rattle.binomials.specs.Binomial.{positive}
use Rattle.lattice.specs.Tally.{total, start}
use Rattle.lattice.specs.Tallies.{count}
use Rattle.lattice.specs.Step.{step, step_none, total_append}
use Rattle.search.specs.Counts.{at_most, at_most_mono, count_le, count_is, step_counts, step_below, rank_inside}
use Rattle.runs.specs.Runs.{Absent, over, back}
use Rattle.search.specs.Walk.{total_take}
use Rattle.sums.specs.Spread.{add_one, number_at, add_each, run, offers, offers_to, reach, with_last, extended, Ready, Spreads, length_add_each, add_each_append}
use Rattle.sums.specs.Marks.{offers_none, offers_some}

-- ---- a run of numbers

-- a number that is there, whatever stands past the end
pub number_in : (vs : List Float) (a : ℕ) → a < length vs → get_or vs a nan ≡ number_at vs a
number_in [] a h = absurd (omega arith)
number_in (v ∷ vs) zero h = refl
number_in (v ∷ vs) (suc a) h = number_in vs a (omega arith)

add_each_one : (p : ℕ × ℕ) (vs xs : List Float) → add_each (p ∷ []) vs xs ≡ add_one p.0 (number_at vs p.1) xs
unfolding add_each
add_each_one p vs xs = refl

pub run_none : (at : ℕ) (vs xs : List Float) → xs ≡ add_each (run at 0) vs xs
unfolding run upto add_each
run_none at vs xs = refl

run_suc : (at k : ℕ) → run at (suc k) ≡ run at k ++ ((at + k, suc k) ∷ [])
unfolding run upto
run_suc at k = map_append (λ (j : ℕ). (at + j, suc j)) (upto k) (k ∷ [])

-- one number more of the run
run_step : (at k : ℕ) (vs xs : List Float) → add_each (run at (suc k)) vs xs ≡ add_one (at + k) (number_at vs (suc k)) (add_each (run at k) vs xs)
run_step at k vs xs =
    ap (λ (l : List (ℕ × ℕ)). add_each l vs xs) (run_suc at k) ∙ add_each_append (run at k) ((at + k, suc k) ∷ []) vs xs
    ∙ add_each_one (at + k, suc k) vs (add_each (run at k) vs xs)

pub run_more : (at k : ℕ) (vs xs : List Float) {ys : List Float} → k + 1 < length vs → ys ≡ add_each (run at k) vs xs
    → set ys (at + k) (add binary64 (get_or ys (at + k) nan) (get_or vs (k + 1) nan)) ≡ add_each (run at (k + 1)) vs xs
unfolding add_one
run_more at k vs xs {ys} h e =
    let n : get_or vs (k + 1) nan ≡ number_at vs (suc k) = number_in vs (k + 1) h ∙ ap (number_at vs) (add-one k) in
    (λ i. set (e i) (at + k) (add binary64 (get_or (e i) (at + k) nan) (n i))) ∙ sym (run_step at k vs xs) ∙ ap (λ (j : ℕ). add_each (run at j) vs xs) (sym (add-one k))

-- the numbers past the end of the table
run_past : (at k d : ℕ) (vs xs : List Float) → length xs ≤ at + k → add_each (run at k) vs xs ≡ add_each (run at (k + d)) vs xs
unfolding add_one
run_past at k zero vs xs h = ap (λ (j : ℕ). add_each (run at j) vs xs) (sym (add-zero k))
run_past at k (suc d) vs xs h =
    let ys = add_each (run at (k + d)) vs xs in
    let out : length ys ≤ at + (k + d) = omega (arith, length_add_each (run at (k + d)) vs xs) in
    run_past at k d vs xs h ∙ sym (set_out ys (at + (k + d)) _ out) ∙ sym (run_step at (k + d) vs xs) ∙ ap (λ (j : ℕ). add_each (run at j) vs xs) (sym (add-suc k d))

-- all of the run that stands before the end
pub run_done : (at : ℕ) {k len : ℕ} (vs xs : List Float) {ys : List Float} → k ≤ len → (k < len → length xs ≤ at + k) → ys ≡ add_each (run at k) vs xs → ys ≡ add_each (run at len) vs xs
run_done at {k} {len} vs xs h past e = e ∙ go (len - k) (omega arith)
  where
    go : (d : ℕ) → k + d ≡ len → add_each (run at k) vs xs ≡ add_each (run at len) vs xs
    go zero q = ap (λ (j : ℕ). add_each (run at j) vs xs) (sym (add-zero k) ∙ q)
    go (suc d) q = run_past at k (suc d) vs xs (past (omega arith)) ∙ ap (λ (j : ℕ). add_each (run at j) vs xs) q

-- the first number, then the run
pub part_done : (part racks len : ℕ) (vs xs : List Float) {ys zs : List Float} → 0 < length vs → ys ≡ add_one part (get_or vs 0 nan) xs → zs ≡ add_each (run racks len) vs ys
    → zs ≡ add_each ((part, 0) ∷ run racks len) vs xs
unfolding add_each
part_done part racks len vs xs h e g = g ∙ ap (add_each (run racks len) vs) (e ∙ ap (λ (v : Float). add_one part v xs) (number_in vs 0 h))

-- ---- the turns of a loop

-- of the turns those below k are done: they took the table from xs to ys
pub record Turned (f : ℕ → List (ℕ × ℕ)) (vs xs ys : List Float) (k : ℕ) : Type 0 where
  pub is : ys ≡ add_each (concat_map f (upto k)) vs xs

pub turned_none : (f : ℕ → List (ℕ × ℕ)) (vs xs : List Float) → Turned f vs xs xs 0
unfolding upto concat_map add_each
turned_none f vs xs = record { is = refl }

pub turned_long : {f : ℕ → List (ℕ × ℕ)} {vs xs ys : List Float} {k : ℕ} → Turned f vs xs ys k → length ys ≡ length xs
turned_long {vs = vs} {xs = xs} g = ap length g.is ∙ length_add_each _ vs xs

pub turned_more : {f : ℕ → List (ℕ × ℕ)} {vs xs ys zs : List Float} {k : ℕ} → Turned f vs xs ys k → zs ≡ add_each (f k) vs ys → Turned f vs xs zs (k + 1)
turned_more {f} {vs} {xs} {k = k} q r =
    record {
      is =
          r ∙ ap (add_each (f k) vs) q.is ∙ sym (add_each_append (concat_map f (upto k)) (f k) vs xs)
          ∙ ap (λ (l : List (ℕ × ℕ)). add_each l vs xs)
          (sym (ap (concat_map f) (ap upto (add-one k) ∙ upto_suc k) ∙ concat_map_append f (upto k) (k ∷ []) ∙ ap (concat_map f (upto k) ++◌) (concat_map_one f k)));
    }

-- ---- what each call asks

module _ {t : List ℕ} {i s w : ℕ} (ready : Ready t i s w) where
  -- at the end: the rank has 32 bits
  pub ready_rank : i ≡ 0 → start (length t) s + w < 4294967294
  ready_rank e =
      let n = length t in
      let z : n - i ≡ n = omega arith in
      let below : w < count n s = subst (λ (k : ℕ). w < count k s) z ready.before in
      let more : s ≤ total (take i t) + s = omega arith in
      omega (arith, rank_inside n s below, at_most_mono (le_refl n) more, ready.inside)

  module _ (some : i ≡ 0 → ⊥) {c : ℕ} (count_at : c ≡ get_or t (i - 1) 0) where
    last : suc (i - 1) ≡ i
    last = omega arith

    tiles_left : total (take i t) ≡ total (take (i - 1) t) + c
    tiles_left =
        let h : i - 1 < length t = omega (arith, ready.letters) in
        ap (λ (k : ℕ). total (take k t)) (sym last) ∙ total_take t (i - 1) h ∙ ap (total (take (i - 1) t) +◌) (sym count_at)

    pub room : {x : ℕ} → x < c + 1 → (s + x ≤ 15) × (at_most (length t - i) (s + x) ≤ 4294967294)
    room {x} h =
        let p : s + x ≤ total (take i t) + s = omega (arith, tiles_left) in
        let q : length t - i ≤ length t = omega arith in
        (omega (arith, ready.tiles), omega (arith, at_most_mono q p, ready.inside))

    -- the call of the turn at x
    pub ready_next : {x v : ℕ} → x < c + 1 → v ≡ w + step (length t - i) (s + x) x → Ready t (i - 1) (s + x) v
    ready_next {x} {v} h e =
        let n = length t in
        let more : total (take (i - 1) t) + (s + x) ≤ total (take i t) + s = omega (arith, tiles_left) in
        let after : n - (i - 1) ≡ suc (n - i) = omega (arith, ready.letters) in
        record {
          letters = omega (arith, ready.letters);
          few = ready.few;
          tiles = omega (arith, more, ready.tiles);
          before = transport (λ k. sym e k < count (sym after k) (s + x)) (step_below (n - i) s x ready.before);
          inside = omega (arith, at_most_mono (le_refl n) more, ready.inside);
        }

    -- and its rank fits
    pub fits_next : {x : ℕ} → x < c + 1 → w + step (length t - i) (s + x) x < 2 ^ 64
    fits_next {x} h =
        let after : length t - (i - 1) ≡ suc (length t - i) = omega (arith, ready.letters) in
        let below : w + step (length t - i) (s + x) x < count (suc (length t - i)) (s + x) = subst (λ (k : ℕ). w + step (length t - i) (s + x) x < count k (s + x)) after (ready_next h refl).before in
        omega (arith, below, count_is (length t - i) (s + x), (room h).1)

-- the letters of a leave end at its last letter
pub spreads_at : {t : List ℕ} {stop numbers : ℕ} → Spreads t stop numbers → Spreads t (suc (stop - 1)) numbers
spreads_at {t} {stop} {numbers} h =
    let e : stop ≡ suc (stop - 1) = omega (arith, h.some) in
    subst (λ (k : ℕ). Spreads t k numbers) e h

module _ {t : List ℕ} {i numbers c k : ℕ} (h : Spreads t (suc i) numbers) (e : k ≡ get_or t i 0) (l : c ≤ k) where
  tiles_before : total (take i t) + c ≤ total t
  tiles_before =
      let all : total (take (suc i) t) + total (drop (suc i) t) ≡ total t = sym (total_append (take (suc i) t) (drop (suc i) t)) ∙ ap total (take-append-drop (suc i) t) in
      omega (arith, total_take t i h.high)

  -- of the last letter c tiles, and one more
  pub last_tiles : 1 + c ≤ 15
  last_tiles = omega (arith, tiles_before, h.tiles)

  -- the walk from the last letter on
  pub ready_last : {s w : ℕ} → c ≤ s → s ≤ 1 + c → w ≡ step (length t - i - 1) s c → Ready t i s w
  unfolding at_most
  ready_last {s} {w} a b q =
      let n = length t in
      let m = n - i - 1 in
      let tiles : total (take i t) + s ≤ suc (total t) = omega (arith, tiles_before) in
      let after : suc m ≡ n - i = omega (arith, h.high) in
      let less : s - c ≤ s = omega arith in
      let some : 0 < at_most m (s - c) = positive (s - c + m) m (omega arith) in
      record {
        letters = omega (arith, h.high);
        few = h.few;
        tiles = omega (arith, tiles, h.tiles);
        before = subst (λ (j : ℕ). w < count j s) after (omega (arith, q, step_counts m s c, count_is m s, at_most_mono (le_refl m) less, some));
        inside = omega (arith, at_most_mono (le_refl n) tiles, h.inside);
      }

  -- what that letter adds has 32 bits
  pub last_fits : {s : ℕ} → c ≤ s → s ≤ 1 + c → step (length t - i - 1) s c ≤ 4294967294
  last_fits {s} a b =
      let m = length t - i - 1 in
      let letters : m ≤ length t = omega arith in
      let tiles : s ≤ suc (total t) = omega (arith, tiles_before) in
      omega (arith, step_counts m s c, count_is m s, at_most_mono letters tiles, h.inside)

-- ---- the marks of the walk

-- one turn of the walk
pub walk_turn : (n : ℕ) (t : List ℕ) (i m s w s' w' len k : ℕ) (vs ys : List Float) {v v' : ℕ} {zs : List Float} → v ≡ w + step m (s + k) k → v' ≡ w' + step m (s' + k) k
    → zs ≡ add_each (offers n t i (s + k) v (s' + k) v' len) vs ys → zs ≡ add_each (offers n t i (s + k) (w + step m (s + k) k) (s' + k) (w' + step m (s' + k) k) len) vs ys
walk_turn n t i m s w s' w' len k vs ys p q e = e ∙ (λ j. add_each (offers n t i (s + k) (p j) (s' + k) (q j) len) vs ys)

-- all turns are done
pub walk_done : (t : List ℕ) {i c k : ℕ} (s w s' w' len : ℕ) (vs xs : List Float) {ys : List Float} → (i ≡ 0 → ⊥) → c ≡ get_or t (i - 1) 0
    → Turned (λ x. offers (length t) t (i - 1) (s + x) (w + step (length t - i) (s + x) x) (s' + x) (w' + step (length t - i) (s' + x) x) len) vs xs ys k → k ≡ suc c
    → ys ≡ add_each (offers (length t) t i s w s' w' len) vs xs
walk_done t {i} {c} {k} s w s' w' len vs xs some e g d =
    let last : suc (i - 1) ≡ i = omega arith in
    let q : k ≡ suc (get_or t (i - 1) 0) = omega arith in
    g.is ∙ (λ j. add_each (offers_to (length t) t (i - 1) (length t - sym last j) s w s' w' len (q j)) vs xs)
    ∙ ap (λ (l : List (ℕ × ℕ)). add_each l vs xs) (sym (offers_some (length t) t (i - 1) s w s' w' len) ∙ ap (λ (l : ℕ). offers (length t) t l s w s' w' len) last)

-- the end of the walk
pub walk_whole : (n : ℕ) (t : List ℕ) (s w s' w' len : ℕ) (vs xs : List Float) {a b : ℕ} {ys : List Float} → a ≡ start n s + w → b ≡ start n s' + w'
    → ys ≡ add_each ((a, 0) ∷ run b len) vs xs → ys ≡ add_each (offers n t 0 s w s' w' len) vs xs
walk_whole n t s w s' w' len vs xs e f g =
    g ∙ (λ j. add_each ((e j, 0) ∷ run (f j) len) vs xs) ∙ ap (λ (l : List (ℕ × ℕ)). add_each l vs xs) (sym (offers_none n t s w s' w' len))

-- ---- letters that are not there

offers_one : (n : ℕ) (t : List ℕ) (i s w s' w' len : ℕ) → get_or t i 0 ≡ 0 → offers n t (suc i) s w s' w' len ≡ offers n t i s w s' w' len
offers_one n t i s w s' w' len e =
    offers_some n t i s w s' w' len ∙ ap (λ (k : ℕ). offers_to n t i m s w s' w' len (suc k)) e ∙ ap (concat_map f) (upto_suc 0 ∙ ap (◌++ (0 ∷ [])) upto_zero) ∙ concat_map_one f 0
    ∙ (λ j. offers n t i (add-zero s j) (same s w j) (add-zero s' j) (same s' w' j) len)
  where
    m : ℕ
    m = n - suc i

    f : ℕ → List (ℕ × ℕ)
    f c = offers n t i (s + c) (w + step m (s + c) c) (s' + c) (w' + step m (s' + c) c) len

    same : (a b : ℕ) → b + step m (a + 0) 0 ≡ b
    same a b = ap (b +◌) (step_none m (a + 0)) ∙ add-zero b

-- the table, with what is marked from i letters on
pub skip_up : (n : ℕ) (t : List ℕ) {j i : ℕ} (s w s' w' len : ℕ) (vs xs : List Float) {ys : List Float} → j ≤ i → i ≤ length t → Absent t j i
    → ys ≡ add_each (offers n t j s w s' w' len) vs xs → ys ≡ add_each (offers n t i s w s' w' len) vs xs
skip_up n t s w s' w' len vs xs {ys} h l a g =
    over t (λ i. ys ≡ add_each (offers n t i s w s' w' len) vs xs) (λ i k e q. q ∙ ap (λ (l : List (ℕ × ℕ)). add_each l vs xs) (sym (offers_one n t i s w s' w' len e))) h l a g

down_one : {t : List ℕ} (i : ℕ) {s w : ℕ} → get_or t i 0 ≡ 0 → Ready t (suc i) s w → Ready t i s w
down_one {t} i {s} {w} e h =
    let n = length t in
    let l : i < n = h.letters in
    let same : total (take (suc i) t) + s ≡ total (take i t) + s = omega (arith, total_take t i l) in
    let d : suc (n - suc i) ≡ n - i = omega arith in
    record {
      letters = omega arith;
      few = h.few;
      tiles = omega (arith, same, h.tiles);
      before = subst (λ (k : ℕ). w < count k s) d (omega (arith, h.before, count_le (n - suc i) s, count_is (n - suc i) s));
      inside = subst (λ (k : ℕ). at_most n k ≤ 4294967294) same h.inside;
    }

pub skip_down : {t : List ℕ} {j i s w : ℕ} → j ≤ i → Absent t j i → Ready t i s w → Ready t j s w
skip_down {t} {s = s} {w = w} h n r = back t (λ i. Ready t i s w) (λ i e g. down_one i e g) h n r

-- ---- the counts of a leave's last letter

pub reach_le : (m count c : ℕ) → reach m count c ≤ m + 1
reach_le m count c = go (ltb c count)
  where
    go : (b : Bool) → cond b m (suc m) ≤ m + 1
    go true = omega arith
    go false = omega arith

-- the parts with c tiles of the last letter
pub last_done : (t : List ℕ) (i c : ℕ) (vs xs : List Float) {ys : List Float} {w w' len k : ℕ} → k ≡ get_or t i 0
    → w ≡ step (length t - i - 1) c c → w' ≡ step (length t - i - 1) (1 + c) c → len ≡ reach (length t - i - 1) k c
    → ys ≡ add_each (offers (length t) t i c w (1 + c) w' len) vs xs → ys ≡ add_each (with_last (length t) t i (length t - suc i) c) vs xs
last_done t i c vs xs e p q l g =
    let m : length t - i - 1 ≡ length t - suc i = omega arith in
    g ∙ (λ j. add_each (offers (length t) t i c (p j) (1 + c) (q j) (l j)) vs xs) ∙ (λ j. add_each (offers (length t) t i c (step (m j) c c) (1 + c) (step (m j) (1 + c) c) (reach (m j) (e j) c)) vs xs)

-- all counts of the last letter
pub extended_done : (t : List ℕ) (i : ℕ) {c k : ℕ} (vs xs : List Float) {ys : List Float} → c ≡ get_or t i 0 → Turned (with_last (length t) t i (length t - suc i)) vs xs ys k → k ≡ suc c
    → ys ≡ add_each (extended (length t) t i) vs xs
unfolding extended
extended_done t i vs xs e g d = g.is ∙ ap (λ (j : ℕ). add_each (concat_map (with_last (length t) t i (length t - suc i)) (upto j)) vs xs) (d ∙ ap suc e)

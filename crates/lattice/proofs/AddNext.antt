-- A row of a table of ranks from the row before it, judged or written: the letters whose tails stay are one more, and the others are walked down from there. Assumes nothing.
use Rattle.std.proofs.Common.{◌≡◌, ℕ, zero, suc, ◌+◌, ◌-◌, ◌*◌, ◌<◌, ◌≤◌, Bool, true, false, List, length, get_or, take, drop, sym, ap, ◌∙◌, subst, add-zero, add-suc, zero-add, arith, length-drop, length-take-le, get_or-drop, get_or-take}
use Rattle.std.proofs.lemmas.List.{drop-take, take_rest}
use native.Mathlib.Decide.{dec_lt}
use Rattle.lattice.specs.AddRows.{lowered, lowered_zero, lowered_suc, Row, Level, RowRight, RowAt, RowBefore, RowPut, Lifted, OneMoreEach, Decides, LastOf, Stepped, RowSame}
use Rattle.lattice.specs.AddRow.{top}

-- ---- the first letters

-- the walk down from one higher, over the same tails
lifted : (above : ℕ) (rem rem' : List ℕ) (l : ℕ) → Row above rem → length rem' ≡ length rem → l < length rem → ((k : ℕ) → k < l → get_or rem' k 0 ≡ get_or rem k 0) → (k : ℕ) → k ≤ l → lowered (suc above) rem' k ≡ suc (lowered above rem k)
lifted above rem rem' l row e b kept zero h = rw (lowered_zero, lowered_zero)
lifted above rem rem' l row e b kept (suc k) h =
    let i = lifted above rem rem' l row e b kept k (omega arith) in
    let falls = row.falls k (omega arith) in
    rw (lowered_suc (suc above) rem' k, lowered_suc above rem k, e, kept k h, i) (omega arith)

-- a right row, and the step from its tally: what is known of it in the next row's walk down
pub row_before : (n i last last' prior : ℕ) (rem rem' table : List ℕ) → Row (top n i (get_or rem 0 0)) rem → LastOf rem last → Stepped last rem rem' last'
    → RowAt (top n i (get_or rem 0 0)) rem prior table → RowBefore (top n (suc i) (get_or rem' 0 0)) rem' last prior table
row_before n i last last' prior rem rem' table row last_of stepped right = record { few = omega (arith, last_of.inside, stepped.advanced.letters); less = less }
  where
    less : (k : ℕ) → k < last → get_or table (prior + k) 0 + 1 ≡ lowered (top n (suc i) (get_or rem' 0 0)) rem' (suc k)
    less k h =
        let same : get_or rem' 0 0 ≡ get_or rem 0 0 = stepped.kept 0 (omega arith) in
        let up : top n (suc i) (get_or rem 0 0) ≡ suc (top n i (get_or rem 0 0)) = omega arith in
        let e : lowered (top n (suc i) (get_or rem' 0 0)) rem' (suc k) ≡ lowered (suc (top n i (get_or rem 0 0))) rem' (suc k) =
        ap (λ (a : ℕ). lowered a rem' (suc k)) (ap (λ (s : ℕ). top n (suc i) s) same ∙ up) in
        let r = right k (omega (arith, last_of.inside)) in
        let l = lifted (top n i (get_or rem 0 0)) rem rem' last row stepped.advanced.letters last_of.inside stepped.kept (suc k) h in
        omega (arith, e, r, l)

-- ---- the other letters

-- the walk down from letter d on
lowered_drop : (above : ℕ) (rem : List ℕ) (d k : ℕ) → lowered (lowered above rem d) (drop d rem) k ≡ lowered above rem (d + k)
lowered_drop above rem d zero = rw (lowered_zero, add-zero)
lowered_drop above rem d (suc k) =
    let e : length (drop d rem) - 1 - k ≡ length rem - 1 - (d + k) = rw length-drop (omega arith) in
    rw (lowered_suc (lowered above rem d) (drop d rem) k, lowered_drop above rem d k, e, get_or-drop d rem k 0, add-suc d k, lowered_suc above rem (d + k))

row_drop : (above : ℕ) (rem : List ℕ) (d : ℕ) → Row above rem → Row (lowered above rem d) (drop d rem)
row_drop above rem d row =
    record {
      letters = omega (arith, row.letters, length-drop d rem);
      few = λ k b. rw (get_or-drop d rem k 0) (row.few (d + k) (inside k b));
      falls = λ k b. rw (lowered_drop above rem d k, place k, get_or-drop d rem k 0) (row.falls (d + k) (inside k b));
      fits = λ k b. rw (lowered_drop above rem d (suc k), add-suc d k) (row.fits (d + k) (inside k b));
    }
  where
    inside : (k : ℕ) → k < length (drop d rem) → d + k < length rem
    inside k b = omega (arith, length-drop d rem)

    place : (k : ℕ) → length (drop d rem) - 1 - k ≡ length rem - 1 - (d + k)
    place k = rw length-drop (omega arith)

level_drop : (rem : List ℕ) (d : ℕ) → Level d rem → Level 0 (drop d rem)
level_drop rem d level k lo hi = rw (get_or-drop d rem k 0, get_or-drop d rem 0 0, add-zero) (level (d + k) (omega arith) (omega (arith, length-drop d rem)))

-- the first letters and the others are the row
row_joined : (above : ℕ) (rem : List ℕ) (d : ℕ) (row : List ℕ) (b : Bool) → ((k : ℕ) → k < d → get_or row k 0 ≡ lowered above rem (suc k))
    → Decides b (RowRight (lowered above rem d) (drop d rem) (drop d row)) → Decides b (RowRight above rem row)
row_joined above rem d row b first rest = record { yes = λ e k h. go e k h (dec_lt k d); no = no_way }
  where
    go : b ≡ true → (k : ℕ) → k < length rem → Dec (k < d) → get_or row k 0 ≡ lowered above rem (suc k)
    go e k h (yes s) = first k s
    go e k h (no s) =
        let r = rest.yes e (k - d) (rw length-drop (omega arith)) in
        let z : d + (k - d) ≡ k = omega arith in
        rw z at (rw (get_or-drop d row (k - d) 0, lowered_drop above rem d (suc (k - d)), add-suc d (k - d)) at r)

    no_way : b ≡ false → RowRight above rem row → ⊥
    no_way e right = rest.no e (λ k h. rw (get_or-drop d row k 0, lowered_drop above rem d (suc k), add-suc d k) (right (d + k) (omega (arith, length-drop d rem))))

-- the same, written: the first letters, and then the others after them
row_put : (above : ℕ) (rem : List ℕ) (at d : ℕ) (add add₁ add₂ : List ℕ) → length add₁ ≡ length add → ((p : ℕ) → p < at → get_or add₁ p 0 ≡ get_or add p 0)
    → ((k : ℕ) → k < d → get_or add₁ (at + k) 0 ≡ lowered above rem (suc k)) → RowPut (lowered above rem d) (drop d rem) (at + d) add₁ add₂ → RowPut above rem at add add₂
row_put above rem at d add add₁ add₂ size before first put =
    record { size = put.size ∙ size; before = λ p h. put.before p (omega arith) ∙ before p h; row = λ k h. go k h (dec_lt k d) }
  where
    go : (k : ℕ) → k < length rem → Dec (k < d) → get_or add₂ (at + k) 0 ≡ lowered above rem (suc k)
    go k h (yes s) = put.before (at + k) (omega arith) ∙ first k s
    go k h (no s) =
        let r = put.row (k - d) (rw length-drop (omega arith)) in
        let y : at + d + (k - d) ≡ at + k = omega arith in
        let z : d + (k - d) ≡ k = omega arith in
        rw z at (rw (y, lowered_drop above rem d (suc (k - d)), add-suc d (k - d)) at r)

-- ---- as the code has them: of the first n tails those from letter d on

module _ (above n d : ℕ) (tails : List ℕ) (few : d ≤ n) where
  abbrev pub rest : List ℕ
  rest = take (n - d) (drop d tails)

  pub rest_is : rest ≡ drop d (take n tails)
  rest_is = let e : d + (n - d) ≡ n = omega arith in sym (rw e at (drop-take d (n - d) tails))

  pub rest_row : {cur : ℕ} → cur ≡ lowered above (take n tails) d → Row above (take n tails) → Row cur rest
  rest_row e row = rw (e, rest_is) (row_drop above (take n tails) d row)

  pub rest_level : Level d (take n tails) → Level 0 rest
  rest_level level = subst (Level 0) (sym rest_is) (level_drop (take n tails) d level)

  -- the row is right where its rest is, if its first letters are one more than those of a right row before
  pub rest_decides : (row : List ℕ) {cur : ℕ} {b : Bool} → cur ≡ lowered above (take n tails) d → ((k : ℕ) → k < d → get_or row k 0 ≡ lowered above (take n tails) (suc k))
      → Decides b (RowRight cur rest (take (length row - d) (drop d row))) → Decides b (RowRight above (take n tails) row)
  rest_decides row {cur} {b} e first judged = row_joined above (take n tails) d row b first (rw (e, rest_is, take_rest row d) at judged)

  -- the first letters are written, and then the others after them
  pub rest_put : {cur prior at : ℕ} {add add₁ add₂ : List ℕ} → cur ≡ lowered above (take n tails) d → RowBefore above (take n tails) d prior add → Lifted d prior at add add₁
      → RowPut cur rest (at + d) add₁ add₂ → RowPut above (take n tails) at add add₂
  rest_put {cur} {prior} {at} {add} {add₁} {add₂} e before lift put =
      row_put above (take n tails) at d add add₁ add₂ lift.size lift.before (λ k h. lift.row k h ∙ before.less k h) (rw (e, rest_is) at put)

-- the entries of the row before have room for one more
pub before_room : {above : ℕ} {rem : List ℕ} {kept prior : ℕ} {table : List ℕ} → Row above rem → RowBefore above rem kept prior table → (k : ℕ) → k < kept → get_or table (prior + k) 0 < 4294967295
before_room row before k h = omega (arith, before.less k h, before.few, row.fits k (omega (arith, before.few)))

-- the first letters are judged by the row before
module _ {above : ℕ} {rem before : List ℕ} (d : ℕ) (row : List ℕ) (e : length before ≡ d) (prior : RowBefore above rem d 0 before) where
  pub first_right : OneMoreEach before (take d row) → (k : ℕ) → k < d → get_or row k 0 ≡ lowered above rem (suc k)
  first_right more k h = sym (get_or-take d row k 0 h) ∙ more k (omega arith) ∙ rw zero-add at (prior.less k h)

  pub first_follows : RowRight above rem row → OneMoreEach before (take d row)
  first_follows right k h =
      let s : k < d = omega arith in
      get_or-take d row k 0 s ∙ right k (omega (arith, prior.few)) ∙ sym (rw zero-add at (prior.less k s))

-- the row as it is written, compared with a table letter by letter
pub decides_same : (above : ℕ) (rem : List ℕ) (n rows i : ℕ) (row row' table : List ℕ) (b : Bool) → length rem ≡ n → n ≤ length row' → RowPut above rem 0 row row'
    → Decides b (RowSame (length (take n row')) rows i 0 (take n row') table) → Decides b ((k : ℕ) → k < length rem → get_or table (k * rows + i) 0 ≡ lowered above rem (suc k))
decides_same above rem n rows i row row' table b e le put judged = record {
  yes = λ x k h. judged.yes x k (omega (arith, size)) ∙ same k (omega arith) ∙ put.row k h;
  no = λ x right. judged.no x (λ k h. let s : k < n = omega (arith, size) in right k (omega arith) ∙ sym (put.row k (omega arith)) ∙ sym (same k s));
}
  where
    size : length (take n row') ≡ n
    size = length-take-le n row' le

    same : (k : ℕ) → k < n → get_or (take n row') (0 + k) 0 ≡ get_or row' (0 + k) 0
    same k h = get_or-take n row' (0 + k) 0 (omega arith)

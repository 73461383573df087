-- What the numbers that were taken leave of what a text says.
use Rattle.std.proofs.Common.{◌≡◌, ℕ, zero, suc, ◌+◌, ◌-◌, ◌*◌, ◌^◌, ◌<◌, ◌≤◌, List, [], ◌∷◌, ◌++◌, map, length, ℤ, pos, negsuc, sym, refl, ap, ap₂, ◌∙◌, append_assoc, append-nil, arith, lt-ltb}
use mathlib.Core.List.{map-append}
use mathlib.Core.Option.{Option, none, some}
use lib.Signed.{mag}
use native.Mathlib.Decide.{dec_le}
use Rattle.refusal.specs.declared.Refusal.TheVariants.{Sizes, Length}
use Rattle.lattice.specs.Served.{facts}
use Rattle.listing.specs.declared.form.Form.{Form}
use Rattle.listing.specs.declared.form.Taken.{Taken}
use Rattle.listing.specs.declared.form.Taken.TheVariants.{Nothing, Letters, Sizes as Sized}
use Rattle.listing.specs.Sizes.{cells_of, cells_served}
use Rattle.listing.specs.Fits.{AreBytes, AreEntries}
use Rattle.listing.specs.Slots.{items_of}
use Rattle.listing.specs.Reading.{below, entry, Body, with_count, with_entry, body, refusal, given, accepted, judge, sized, reading_of, whole, IsRefusedAfter}
use Rattle.listing.specs.Taken.{form_numbers, numbers_of}

-- ---- counts and entries before the rest of a body

with_counts : List ℕ → Option Body → Option Body
with_counts [] ob = ob
with_counts (x ∷ xs) ob = with_count (some x) (with_counts xs ob)

with_entries : List ℤ → Option Body → Option Body
with_entries [] ob = ob
with_entries (z ∷ zs) ob = with_entry (some z) (with_entries zs ob)

counts_none : (xs : List ℕ) → with_counts xs none ≡ none
unfolding with_counts
counts_none [] = refl
counts_none (x ∷ xs) = ap (with_count (some x)) (counts_none xs)

entries_none : (zs : List ℤ) → with_entries zs none ≡ none
unfolding with_entries
entries_none [] = refl
entries_none (z ∷ zs) = ap (with_entry (some z)) (entries_none zs)

counts_some : (xs : List ℕ) (b : Body) → with_counts xs (some b) ≡ some (record { pool = xs ++ b.pool; entries = b.entries })
unfolding with_counts
counts_some [] b = refl
counts_some (x ∷ xs) b = ap (with_count (some x)) (counts_some xs b)

entries_some : (zs : List ℤ) (b : Body) → with_entries zs (some b) ≡ some (record { pool = b.pool; entries = zs ++ b.entries })
unfolding with_entries
entries_some [] b = refl
entries_some (z ∷ zs) b = ap (with_entry (some z)) (entries_some zs b)

counts_then : (xs : List ℕ) → AreBytes xs → (k c v : ℕ) → length xs + c ≡ k → (zs : List (Option ℤ)) → body k v (whole (map pos xs) ++ zs) ≡ with_counts xs (body c v zs)
unfolding with_counts body
counts_then [] fit k c v e zs = let same : k ≡ c = omega arith in ap (λ (j : ℕ). body j v zs) same
counts_then (x ∷ xs) fit zero c v e zs = absurd (omega arith)
counts_then (x ∷ xs) fit (suc k) c v e zs =
    let small : x < 256 = fit 0 (omega arith) in
    let byte : below 256 (some (pos x)) ≡ some x = simp (lt-ltb x 256 small) in
    ap₂ with_count byte (counts_then xs (λ i h. fit (suc i) (omega arith)) k c v (omega arith) zs)

entry_fits : (z : ℤ) → mag z < 2 ^ 31 → entry (some z) ≡ some z
entry_fits (pos n) h = simp (lt-ltb n (2 ^ 31) h)
entry_fits (negsuc n) h = simp (lt-ltb n (2 ^ 31) h)

entries_then : (es : List ℤ) → AreEntries es → (k v : ℕ) → length es + v ≡ k → (zs : List (Option ℤ)) → body 0 k (whole es ++ zs) ≡ with_entries es (body 0 v zs)
unfolding with_entries body
entries_then [] fit k v e zs = let same : k ≡ v = omega arith in ap (λ (j : ℕ). body 0 j zs) same
entries_then (x ∷ xs) fit zero v e zs = absurd (omega arith)
entries_then (x ∷ xs) fit (suc k) v e zs =
    ap₂ with_entry (entry_fits x (fit 0 (omega arith))) (entries_then xs (λ i h. fit (suc i) (omega arith)) k v (omega arith) zs)

-- ---- after the sizes

below_small : (n : ℕ) → n < 2 ^ 64 → below (2 ^ 64) (some (pos n)) ≡ some n
below_small n h = simp (lt-ltb n (2 ^ 64) h)

pub sized_rest : (n r : ℕ) → 0 < cells_of n r → (rest : List (Option ℤ)) → reading_of (some (pos n) ∷ some (pos r) ∷ rest) ≡ accepted n r (body n (cells_of n r * 2) rest)
unfolding reading_of
sized_rest n r some_cells rest =
    let s = facts n r (cells_served n r some_cells).sizes in
    rw (below_small n (omega (arith, s.letters)), below_small r (omega (arith, s.tiles)))
    (go (cells_of n r) some_cells)
  where
    go : (k : ℕ) → 0 < k → judge n r k rest ≡ accepted n r (body n (k * 2) rest)
    go zero h = absurd (omega arith)
    go (suc k) h = refl

module _ (f : Form) (c v : ℕ) (counts : length (items_of f.pool) + c ≡ f.n) (values : length (items_of f.entries) + v ≡ f.cells * 2) where
  -- what follows a form's numbers
  follows : (zs : List (Option ℤ)) → reading_of (whole (form_numbers f) ++ zs) ≡ accepted f.n f.r (with_counts (items_of f.pool) (with_entries (items_of f.entries) (body c v zs)))
  unfolding form_numbers with_entries
  follows zs =
      sized_rest f.n f.r (omega (arith, f.sized, f.served)) (whole (map pos (items_of f.pool) ++ items_of f.entries) ++ zs)
      ∙ ap (accepted f.n f.r) (
      ap₂ (λ (k : ℕ) (rest : List (Option ℤ)). body f.n k rest) (ap (λ (k : ℕ). k * 2) (sym f.sized)) regroup
      ∙ counts_then (items_of f.pool) f.bytes f.n c (f.cells * 2) counts (whole (items_of f.entries) ++ zs)
      ∙ ap (with_counts (items_of f.pool)) (go c (items_of f.entries) (λ h. f.in_order (omega arith)) f.words values)
      )
    where
      regroup : whole (map pos (items_of f.pool) ++ items_of f.entries) ++ zs ≡ whole (map pos (items_of f.pool)) ++ (whole (items_of f.entries) ++ zs)
      regroup = ap (◌++ zs) (map-append some (map pos (items_of f.pool)) (items_of f.entries)) ∙ append_assoc (whole (map pos (items_of f.pool))) (whole (items_of f.entries)) zs

      -- while a count is missing there is no entry
      go : (c : ℕ) (es : List ℤ) → (0 < c → length es ≡ 0) → AreEntries es → length es + v ≡ f.cells * 2
          → body c (f.cells * 2) (whole es ++ zs) ≡ with_entries es (body c v zs)
      go zero es empty fit s = entries_then es fit (f.cells * 2) v s zs
      go (suc c) [] empty fit s = let same : f.cells * 2 ≡ v = omega arith in ap (λ (k : ℕ). body (suc c) k zs) same
      go (suc c) (x ∷ xs) empty fit s = absurd (omega (arith, empty (omega arith)))

-- ---- where a number is refused

module _ (z : Option ℤ) where
  pub first_refused : below (2 ^ 64) z ≡ none → IsRefusedAfter [] z Length
  unfolding reading_of
  first_refused bad [] = refl
  first_refused bad (b ∷ rest) = ap (λ (o : Option ℕ). sized o (below (2 ^ 64) b) rest) bad

  pub second_refused : (n : ℕ) → below (2 ^ 64) z ≡ none → IsRefusedAfter (pos n ∷ []) z Length
  unfolding reading_of
  second_refused n bad rest = ap (λ (o : Option ℕ). sized (below (2 ^ 64) (some (pos n))) o rest) bad ∙ go (below (2 ^ 64) (some (pos n)))
    where
      go : (o : Option ℕ) → sized o none rest ≡ refusal Length
      go none = refl
      go (some n) = refl

  module _ (f : Form) where
    -- where what follows is no body
    lost : (c v : ℕ) → length (items_of f.pool) + c ≡ f.n → length (items_of f.entries) + v ≡ f.cells * 2 → (zs : List (Option ℤ)) → body c v zs ≡ none
        → reading_of (whole (form_numbers f) ++ zs) ≡ refusal Length
    lost c v counts values zs e =
        follows f c v counts values zs
        ∙ ap (accepted f.n f.r) (ap (λ (ob : Option Body). with_counts (items_of f.pool) (with_entries (items_of f.entries) ob)) e ∙ ap (with_counts (items_of f.pool)) (entries_none (items_of f.entries)) ∙ counts_none (items_of f.pool))

    body_count : (c v : ℕ) (rest : List (Option ℤ)) → 0 < c → below (2 ^ 8) z ≡ none → body c v (z ∷ rest) ≡ none
    unfolding body
    body_count zero v rest h bad = absurd (omega arith)
    body_count (suc c) v rest h bad = ap (λ (o : Option ℕ). with_count o (body c v rest)) bad

    body_entry : (v : ℕ) (rest : List (Option ℤ)) → entry z ≡ none → body 0 v (z ∷ rest) ≡ none
    unfolding body
    body_entry zero rest bad = refl
    body_entry (suc v) rest bad = ap (λ (o : Option ℤ). with_entry o (body 0 v rest)) bad

    pub count_refused : length (items_of f.pool) < f.n → below (2 ^ 8) z ≡ none → IsRefusedAfter (form_numbers f) z Length
    count_refused more bad rest =
        let c = f.n - length (items_of f.pool) in
        let v = f.cells * 2 - length (items_of f.entries) in
        lost c v (omega (arith, f.counts)) (omega (arith, f.values)) (z ∷ rest) (body_count c v rest (omega arith) bad)

    pub entry_refused : f.n ≤ length (items_of f.pool) → entry z ≡ none → IsRefusedAfter (form_numbers f) z Length
    entry_refused full bad rest =
        let v = f.cells * 2 - length (items_of f.entries) in
        lost 0 v (omega (arith, f.counts)) (omega (arith, f.values)) (z ∷ rest) (body_entry v rest bad)

    pub extra_refused : f.n ≤ length (items_of f.pool) → f.cells * 2 ≤ length (items_of f.entries) → IsRefusedAfter (form_numbers f) z Length
    unfolding body
    extra_refused full over rest = lost 0 0 (omega (arith, f.counts)) (omega (arith, f.values)) (z ∷ rest) refl

-- sizes that the listing does not serve
pub sizes_refused : (n r : ℕ) → n < 2 ^ 64 → r < 2 ^ 64 → cells_of n r ≡ 0 → IsRefusedAfter (pos n ∷ []) (some (pos r)) Sizes
unfolding reading_of
sizes_refused n r ln lr e rest = rw (below_small n ln, below_small r lr, e) refl

-- a token that is no number
pub malformed_refused : (t : Taken) → IsRefusedAfter (numbers_of t) none Length
unfolding numbers_of
malformed_refused Nothing = first_refused none refl
malformed_refused (Letters n) = second_refused none n refl
malformed_refused (Sized f) = go (dec_le f.n (length (items_of f.pool)))
  where
    go : Dec (f.n ≤ length (items_of f.pool)) → IsRefusedAfter (form_numbers f) none Length
    go (yes full) = entry_refused none f full refl
    go (no not) = count_refused none f (omega arith) refl

-- ---- where the text ends

pub nothing_read : reading_of [] ≡ refusal Length
unfolding reading_of
nothing_read = refl

pub one_read : (z : Option ℤ) → reading_of (z ∷ []) ≡ refusal Length
unfolding reading_of
one_read z = refl

module _ (f : Form) where
  ended : (c v : ℕ) → length (items_of f.pool) + c ≡ f.n → length (items_of f.entries) + v ≡ f.cells * 2
      → reading_of (whole (form_numbers f)) ≡ accepted f.n f.r (with_counts (items_of f.pool) (with_entries (items_of f.entries) (body c v [])))
  ended c v counts values = ap reading_of (sym (append-nil (whole (form_numbers f)))) ∙ follows f c v counts values []

  -- a number is missing
  pub form_lacks : length (items_of f.pool) + length (items_of f.entries) < f.n + f.cells * 2 → reading_of (whole (form_numbers f)) ≡ refusal Length
  unfolding body
  form_lacks less =
      let c = f.n - length (items_of f.pool) in
      let v = f.cells * 2 - length (items_of f.entries) in
      ap reading_of (sym (append-nil (whole (form_numbers f)))) ∙ lost none f c v (omega (arith, f.counts)) (omega (arith, f.values)) [] (go c v (omega (arith, f.counts, f.values)))
    where
      go : (c v : ℕ) → 0 < c + v → body c v [] ≡ none
      go zero zero h = absurd (omega arith)
      go zero (suc v) h = refl
      go (suc c) v h = refl

  -- and none is
  pub form_full : f.n ≤ length (items_of f.pool) → f.cells * 2 ≤ length (items_of f.entries)
      → reading_of (whole (form_numbers f)) ≡ given f.n f.r (record { pool = items_of f.pool; entries = items_of f.entries })
  unfolding body
  form_full all_counts all_entries =
      let b : Body = record { pool = []; entries = [] } in
      ended 0 0 (omega (arith, f.counts)) (omega (arith, f.values))
      ∙ ap (accepted f.n f.r) (
      ap (with_counts (items_of f.pool)) (entries_some (items_of f.entries) b)
      ∙ counts_some (items_of f.pool) (record { pool = []; entries = items_of f.entries ++ [] })
      ∙ ap₂ (λ (xs : List ℕ) (es : List ℤ). some (record { pool = xs; entries = es })) (append-nil (items_of f.pool)) (append-nil (items_of f.entries))
      )

-- A row judged as a part of the table, and a rest of it whose tails are all the same. Assumes nothing.
use Rattle.std.proofs.Common.{◌≡◌, ℕ, zero, suc, ◌+◌, ◌-◌, ◌<◌, ◌≤◌, Bool, List, length, get_or, take, drop, replicate, sym, ◌∙◌, zero-add, arith, length-drop, length-take-le, get_or-drop, get_or-take, ext_get_or}
use native.Mathlib.Nat.{sub-zero, add-sub_cancel_left}
use lib.ListN.{length-replicate, get_or-replicate}
use Rattle.binomials.specs.Binomial.{binomial_self}
use Rattle.lattice.specs.AddRows.{choices, lowered, lowered_zero, lowered_suc, Row, Level, RowRight, RowAt, DownFrom, Decides}

-- the n entries from `at` on
abbrev pub part : ℕ → ℕ → List ℕ → List ℕ
part at n table = take (at + n - at) (drop at table)

pub part_length : (at n : ℕ) (table : List ℕ) → at + n ≤ length table → length (part at n table) ≡ n
part_length at n table h = rw add-sub_cancel_left (length-take-le n (drop at table) (rw length-drop (omega arith)))

pub part_at : (at n : ℕ) (table : List ℕ) (k : ℕ) → k < n → get_or (part at n table) k 0 ≡ get_or table (at + k) 0
part_at at n table k h = rw (add-sub_cancel_left, get_or-take n (drop at table) k 0 h, get_or-drop at table k 0)

-- the row, as a part and in the table
pub decides_part : (above : ℕ) (rem : List ℕ) (at n : ℕ) (table : List ℕ) (b : Bool) → length rem ≡ n → Decides b (RowRight above rem (part at n table)) → Decides b (RowAt above rem at table)
decides_part above rem at n table b e judged = record {
  yes = λ x k h. sym (part_at at n table k (omega arith)) ∙ judged.yes x k h;
  no = λ x right. judged.no x (λ k h. part_at at n table k (omega arith) ∙ right k h);
}

-- ---- tails that are all the same

-- as a list
pub level_list : (rem : List ℕ) (n : ℕ) → n ≡ length rem → Level 0 rem → replicate n (get_or rem 0 0) ≡ rem
level_list rem n e level =
    let size = length-replicate n (get_or rem 0 0) in
    ext_get_or 0 (replicate n (get_or rem 0 0)) rem (size ∙ e) (λ k h. get_or-replicate n k (get_or rem 0 0) 0 (omega arith) ∙ sym (level k (omega arith) (omega arith)))

-- ---- letters without tiles

choices_none : (p : ℕ) → choices p 0 ≡ 1
choices_none p = rw zero-add (binomial_self p)

-- the walk down is a step of one at each letter
bare_steps : (above : ℕ) (rem : List ℕ) → ((k : ℕ) → k < length rem → get_or rem k 0 ≡ 0) → (k : ℕ) → k ≤ length rem → lowered above rem k ≡ above - k
bare_steps above rem none zero h = lowered_zero above rem ∙ sym (sub-zero above)
bare_steps above rem none (suc k) h = rw (lowered_suc above rem k, bare_steps above rem none k (omega arith), none k h, choices_none (length rem - 1 - k)) (omega arith)

-- a row that goes down by one each: it has that far to go, from a number that fits, and decides
pub record Bare (above : ℕ) (rem row : List ℕ) : Type 0 where
  pub room : length rem ≤ above
  pub fits : above - 1 < 4294967296
  pub decides : (b : Bool) → Decides b (DownFrom (above - 1) row) → Decides b (RowRight above rem row)

pub bare : (above : ℕ) (rem row : List ℕ) → get_or rem 0 0 ≡ 0 → Row above rem → length row ≡ length rem → 0 < length rem → Level 0 rem → Bare above rem row
bare above rem row z known size some level = record { room = room; fits = rw (steps 1 some) at (known.fits 0 some); decides = decides }
  where
    none : (k : ℕ) → k < length rem → get_or rem k 0 ≡ 0
    none k h = level k (omega arith) h ∙ z

    steps : (k : ℕ) → k ≤ length rem → lowered above rem k ≡ above - k
    steps = bare_steps above rem none

    room : length rem ≤ above
    room =
        let last : length rem - 1 < length rem = omega arith in
        let f = rw (none (length rem - 1) last, choices_none (length rem - 1 - (length rem - 1)), steps (length rem - 1) (omega arith)) at (known.falls (length rem - 1) last) in
        omega arith

    entry : (k : ℕ) → k < length rem → lowered above rem (suc k) ≡ above - 1 - k
    entry k h = steps (suc k) h ∙ omega arith

    decides : (b : Bool) → Decides b (DownFrom (above - 1) row) → Decides b (RowRight above rem row)
    decides b d = record {
      yes = λ e k h. d.yes e k (omega arith) ∙ sym (entry k h);
      no = λ e right. d.no e (λ k h. let s : k < length rem = omega arith in right k s ∙ entry k s);
    }

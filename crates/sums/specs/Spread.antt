-- What the walk over the parts of a leave does, for all racks that extend it by one tile: it adds the racks' sum at each part, and each rack's own number
-- at the part with the rack's last tile. Assumes nothing.
use Rattle.std.specs.Prelude.{◌≡◌, refl, cond, List, [], ◌∷◌, ◌++◌, map, ℕ, zero, suc, ◌+◌, ◌-◌, ◌≤◌, ◌<◌, ltb, Float, pos, length, get_or, set, take}
use Rattle.std.proofs.Common.{◌∙◌, length-set}
use Rattle.std.specs.Float.{nan, binary64}
use Rattle.std.specs.Float.Ieee.{add}
use Rattle.laws.specs.Lists.{upto, concat_map}
use Rattle.whole.specs.Whole.{whole}
use Rattle.lattice.specs.Tally.{total, start}
use Rattle.lattice.specs.Tallies.{count}
use Rattle.lattice.specs.Step.{step}
use Rattle.search.specs.Counts.{at_most}

-- x is added to the entry at i; past the end nothing changes
unfoldable pub add_one : ℕ → Float → List Float → List Float
add_one i x xs = set xs i (add binary64 (get_or xs i nan) x)

-- of some numbers the one at a place, 0 past their end
abbrev pub number_at : List Float → ℕ → Float
number_at vs a = get_or vs a (whole (pos 0))

-- at each index, the number at its place is added
unfoldable pub add_each : List (ℕ × ℕ) → List Float → List Float → List Float
add_each [] vs xs = xs
add_each (p ∷ ps) vs xs = add_each ps vs (add_one p.0 (number_at vs p.1) xs)

-- from an index on, the numbers after the first, len of them
unfoldable pub run : ℕ → ℕ → List (ℕ × ℕ)
run at len = map (λ j. (at + j, suc j)) (upto len)

-- the ranks of the parts of a tally t of n letters, where the first i letters are still to be chosen from: the letters after them have
-- s tiles and w tallies of their size before them
unfoldable pub marks : ℕ → List ℕ → ℕ → ℕ → ℕ → List ℕ
marks n t zero s w = (start n s + w) ∷ []
marks n t (suc i) s w = concat_map (λ c. marks n t i (s + c) (w + step (n - suc i) (s + c) c)) (upto (suc (get_or t i 0)))

-- the first number at each of those ranks, and the numbers after it from the rank on of the same part where s' and w' are those of the letters after it
unfoldable pub offers : ℕ → List ℕ → ℕ → ℕ → ℕ → ℕ → ℕ → ℕ → List (ℕ × ℕ)
offers n t zero s w s' w' len = (start n s + w, 0) ∷ run (start n s' + w') len
offers n t (suc i) s w s' w' len =
    concat_map (λ c. offers n t i (s + c) (w + step (n - suc i) (s + c) c) (s' + c) (w' + step (n - suc i) (s' + c) c) len) (upto (suc (get_or t i 0)))

-- those with fewer than k tiles of the letter after the first i, m letters after it
abbrev pub offers_to : ℕ → List ℕ → ℕ → ℕ → ℕ → ℕ → ℕ → ℕ → ℕ → ℕ → List (ℕ × ℕ)
offers_to n t i m s w s' w' len k = concat_map (λ c. offers n t i (s + c) (w + step m (s + c) c) (s' + c) (w' + step m (s' + c) c) len) (upto k)

-- how many racks have one tile more than a part with c tiles of the leave's last letter: the tile is of one of the m letters after it, or where c is
-- the leave's whole count, of the letter itself
abbrev pub reach : ℕ → ℕ → ℕ → ℕ
reach m count c = cond (ltb c count) m (suc m)

-- the parts with c tiles of the letter after the first i, which is the last of t, m letters after it
abbrev pub with_last : ℕ → List ℕ → ℕ → ℕ → ℕ → List (ℕ × ℕ)
with_last n t i m c = offers n t i c (step m c c) (1 + c) (step m (1 + c) c) (reach m (get_or t i 0) c)

-- all parts of a leave t whose last letter is that after the first i
unfoldable pub extended : ℕ → List ℕ → ℕ → List (ℕ × ℕ)
extended n t i = concat_map (with_last n t i (n - suc i)) (upto (suc (get_or t i 0)))

-- what the walk asks with i letters to go
pub record Ready (t : List ℕ) (i s w : ℕ) : Type 0 where
  pub letters : i ≤ length t
  pub few : length t ≤ 64
  pub tiles : total (take i t) + s ≤ 15
  pub before : w < count (length t - i) s
  pub inside : at_most (length t) (total (take i t) + s) ≤ 4294967294

-- a leave with one tile to come: its letters end at stop, and its racks have ranks of 32 bits and numbers beside the first
pub record Spreads (t : List ℕ) (stop numbers : ℕ) : Type 0 where
  pub few : length t ≤ 64
  pub tiles : suc (total t) ≤ 15
  pub inside : at_most (length t) (suc (total t)) ≤ 4294967294
  pub some : 1 ≤ stop
  pub high : stop ≤ length t
  pub racks : length t - stop + 1 < numbers

-- both tables have their numbers added: num the values, den the ways
pub record Added (places : List (ℕ × ℕ)) (values ways num₀ den₀ num₁ den₁ : List Float) : Type 0 where
  pub num : num₁ ≡ add_each places values num₀
  pub den : den₁ ≡ add_each places ways den₀

-- ---- the table

pub length_add_one : (i : ℕ) (x : Float) (xs : List Float) → length (add_one i x xs) ≡ length xs
unfolding add_one
length_add_one i x xs = simp length-set

pub length_add_each : (ps : List (ℕ × ℕ)) (vs xs : List Float) → length (add_each ps vs xs) ≡ length xs
unfolding add_each
length_add_each [] vs xs = refl
length_add_each (p ∷ ps) vs xs = length_add_each ps vs (add_one p.0 (number_at vs p.1) xs) ∙ length_add_one p.0 (number_at vs p.1) xs

pub add_each_append : (ps qs : List (ℕ × ℕ)) (vs xs : List Float) → add_each (ps ++ qs) vs xs ≡ add_each qs vs (add_each ps vs xs)
unfolding add_each
add_each_append [] qs vs xs = refl
add_each_append (p ∷ ps) qs vs xs = add_each_append ps qs vs (add_one p.0 (number_at vs p.1) xs)

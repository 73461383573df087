-- The sums at the leaves without a fold: leave by leave of one tile less than a full rack, the drawable racks that extend it are added to the leaves below
-- them, which gives the same sums. Assumes nothing.
use Rattle.std.specs.Prelude.{ℕ, zero, suc, ◌+◌, ◌-◌, ◌*◌, ◌^◌, ◌≤◌, ◌<◌, Bool, cond, not, ◌≡◌, refl, T, eqb, ltb, Float, ℤ, pos, nat_abs, ◌+ℤ◌, ◌*ℤ◌, length, take, drop}
use Rattle.std.proofs.Math.Bool.{true, false}
use mathlib.Core.List.{List, [], ◌∷◌, ◌++◌, map}
use Rattle.std.proofs.Common.{sym, ap₂, ◌∙◌, subst, ltb→lt, nltb→le, take-append-drop, take-suc, le_refl, le_trans, le_of_eq, mul-one, arith}
use Rattle.std.proofs.Math.Path.{ap}
use Rattle.std.specs.Float.Ieee.{nan, lt, of_bits, of_int, add as addF, mul}
use Rattle.std.specs.Float.{binary64}
use Rattle.std.proofs.Math.IntN.{+ℤ_idr, zero-*ℤ}
use Rattle.std.proofs.Math.ListN.{get_or, get_or-eq_default}
use Rattle.std.proofs.lemmas.List.{length-map}
use Rattle.std.proofs.Math.Seq.{take-length}
use Rattle.std.proofs.Math.Decide.{dec_lt}
use Rattle.laws.specs.Every.{every_member, every_weaken, upto_below}
use Rattle.laws.specs.Integer.{at_ℤ, nat_abs_add}
use Rattle.laws.specs.Lists.{upto, length_upto, get_or_upto, get_or_map_lt, mem_at, mem_upto}
use Rattle.laws.specs.Loops.{ascend}
use Rattle.laws.specs.Sums.{Additive, naturals, integers, sum_in, sum_over, sum_over_ℤ, sum_append, sum_cong, sum_cong_on, sum_concat_map, sum_le, sum_map, sum_member, sum_none, sum_upto_zero, sum_upto_suc, sum_weights, pos_sum}
use Rattle.whole.specs.Whole.{whole, Small}
use Rattle.whole.proofs.Steps.{zero_literal, above_zero, add_whole, mul_whole_above}
use Rattle.binomials.specs.Binomial.{binomial}
use Rattle.lattice.specs.Tally.{total, tallies, lattice, start, rank_of, tally_at, add_tile, start_suc}
use Rattle.lattice.specs.Tallies.{Fits, tally_at_fits, tallies_fit, tallies_all}
use Rattle.lattice.specs.Lattice.{block_at, start_next, length_lattice_start}
use Rattle.lattice.specs.Rank.{rank_below, rank_from, length_add_tile, total_add_tile}
use Rattle.lattice.specs.Answers.{served}
use Rattle.lattice.specs.Served.{facts, length_small}
use Rattle.lattice.specs.Leaves.{leave_rank}
use Rattle.extensions.specs.Extensions.{stop_of, extension, extent, extensions, stop_low, stop_high, stop_none, extension_rank}
use Rattle.extensions.specs.Racks.{Leave, racks_extend}
use Rattle.hands.specs.Hands.{holds, ways, hand_sum, cond_le}
use Rattle.hands.proofs.Hands.{hand_sum_cond, ways_total, ways_drawable}
use Rattle.search.specs.Counts.{at_most}
use Rattle.runs.specs.Runs.{Absent}
use Rattle.sums.specs.Spread.{number_at, add_each, extended, Spreads, length_add_each}
use Rattle.sums.specs.Marks.{Adds, add_each_at, extended_sum}
use Rattle.sums.specs.Weight.{Clear}
use Rattle.fused.specs.Zeta.{ways_at}
use Rattle.fused.specs.ZetaSums.{Weighed, Summed, Read, value_le, hand_ones, all_small, num_weighed, den_weighed}

-- ---- what the loop does

-- the product of ways and best, 0 where the ways are not above 0
abbrev pub drawn_value : Float → ℤ → Float
drawn_value w b = cond (lt (of_bits binary64 0) w) (mul binary64 w (of_int binary64 b)) (of_bits binary64 0)

-- what the full rack at index j counts for
abbrev pub drawn_at : ℕ → List Float → List ℤ → ℕ → Float
drawn_at lo ways bests j = drawn_value (ways_at lo ways j) (at_ℤ bests j)

-- the sum of x from first on, k of them
abbrev pub sum_from : (ℕ → Float) → ℕ → ℕ → Float
sum_from x first k = ascend (λ j a. addF binary64 a (x (first + j))) k (of_bits binary64 0)

-- that sum, and x from first on
abbrev pub numbers : (ℕ → Float) → ℕ → ℕ → List Float
numbers x first k = sum_from x first k ∷ map (λ j. x (first + j)) (upto k)

-- the racks that extend a leave t are added, if any of them has ways
unfoldable pub leave_added : ℕ → ℕ → List Float → (ℕ → Float) → List ℕ → List Float → List Float
leave_added n lo ways x t d =
    cond (lt (of_bits binary64 0) (sum_from (ways_at lo ways) (rank_of n (extension t 0)) (extent t)))
    (add_each (extended n t (stop_of t - 1)) (numbers x (rank_of n (extension t 0)) (extent t)) d) d

-- the leave at a rank
abbrev pub spread_leave : ℕ → ℕ → ℕ → List Float → (ℕ → Float) → ℕ → List Float → List Float
spread_leave n r lo ways x rank d = leave_added n lo ways x (tally_at n r rank) d

-- every leave of one tile less than a full rack
abbrev pub spread_all : ℕ → ℕ → ℕ → List Float → (ℕ → Float) → List Float → List Float
spread_all n r lo ways x d = ascend (λ k. spread_leave n r lo ways x (start n (r - 1) + k)) (lo - start n (r - 1)) d

pub length_leave_added : (n lo : ℕ) (ways : List Float) (x : ℕ → Float) (t : List ℕ) (d : List Float) → length (leave_added n lo ways x t d) ≡ length d
unfolding leave_added
length_leave_added n lo ways x t d = go (lt (of_bits binary64 0) (sum_from (ways_at lo ways) (rank_of n (extension t 0)) (extent t)))
  where
    go : (b : Bool) → length (cond b (add_each (extended n t (stop_of t - 1)) (numbers x (rank_of n (extension t 0)) (extent t)) d) d) ≡ length d
    go true = length_add_each _ _ d
    go false = refl

pub length_leaves : (n r lo : ℕ) (ways : List Float) (x : ℕ → Float) (from k : ℕ) (d : List Float) → length (ascend (λ j. spread_leave n r lo ways x (from + j)) k d) ≡ length d
length_leaves n r lo ways x from zero d = refl
length_leaves n r lo ways x from (suc k) d = length_leave_added n lo ways x _ _ ∙ length_leaves n r lo ways x from k d

-- ---- what the calls ask and leave

-- the racks from first on, with a number for each after the first number
pub record Taking (lo first racks size values counts : ℕ) : Type 0 where
  pub some : 0 < values
  pub same : counts ≡ values
  pub few : values ≤ 65
  pub low : lo ≤ first
  pub inside : first + values ≤ suc size
  pub full : size ≡ lo + racks

-- the numbers of a after the first become x from first on
pub record Taken (x : ℕ → Float) (first : ℕ) (a b : List Float) : Type 0 where
  pub long : length b ≡ length a
  pub rest : (j : ℕ) → suc j < length b → get_or b (suc j) nan ≡ x (first + j)

-- the sum of the numbers after the first
abbrev pub sum_rest : List Float → Float
sum_rest vs = ascend (λ j a. addF binary64 a (get_or vs (suc j) nan)) (length vs - 1) (of_bits binary64 0)

-- the full racks of the lattice stand from lo on
pub record Spreading (n r lo racks size : ℕ) : Type 0 where
  pub sizes : served n r ≡ true
  pub all : size ≡ binomial (r + n) n
  pub full : size ≡ lo + racks
  pub from : lo ≡ start n r

-- where a leave's letters end
pub leave_stop : {n r rank stop first : ℕ} {t : List ℕ} → served n r ≡ true → Leave n r rank t stop first → (1 ≤ stop) × (stop ≤ length t) × (length t ≤ 64)
leave_stop {n} {r} {t = t} e h =
    let f = facts n r e in
    let some : 0 < length t = omega (arith, h.letters, f.some_letter) in
    (omega (arith, h.stops, stop_low t some), omega (arith, h.stops, stop_high t), omega (arith, h.letters, f.letters))

-- the leaves of one tile less stand below the full racks
pub leaves_from : {n r lo racks size from : ℕ} → Spreading n r lo racks size → from ≡ start n (r - 1) → from ≤ lo
leaves_from {n} {r} h e =
    let f = facts n r h.sizes in
    let k : suc (r - 1) ≡ r = omega (arith, f.some_tile) in
    omega (arith, h.from, start_next n (r - 1), ap (start n) k)

pub spreads : {n r rank numbers stop first : ℕ} {t : List ℕ} → served n r ≡ true → Leave n r rank t stop first → numbers ≡ length t - stop + 2 → Spreads t stop numbers
unfolding at_most
spreads {n} {r} {t = t} e h k =
    let f = facts n r e in
    let g = leave_stop e h in
    let s : binomial (suc (total t) + length t) (length t) ≡ binomial (r + n) n = ap₂ (λ (a b : ℕ). binomial (a + b) b) h.tiles h.letters in
    record { few = g.2; tiles = omega (arith, h.tiles, f.tiles); inside = omega (arith, length_small n r f); some = g.0; high = g.1; racks = omega arith }

-- ---- sums of whole numbers

size_le : {A : Type 0} (xs : List A) (f : A → ℤ) → nat_abs (sum_over_ℤ xs f) ≤ sum_over xs (λ x. nat_abs (f x))
size_le [] f = omega arith
size_le (x ∷ xs) f = omega (arith, nat_abs_add (f x) (sum_over_ℤ xs f), size_le xs f)

take_le : {A : Type 0} (g : A → ℕ) (k : ℕ) (xs : List A) → sum_over (take k xs) g ≤ sum_over xs g
take_le g k xs = omega (arith, sum_append naturals (take k xs) (drop k xs) g, ap (λ (l : List _). sum_over l g) (take-append-drop k xs))

-- a running sum
sum_up : (f : ℕ → Float) (v : ℕ → ℤ) (k : ℕ) → ((j : ℕ) → j < k → f j ≡ whole (v j)) → sum_over (upto k) (λ j. nat_abs (v j)) ≤ 2 ^ 53
    → ascend (λ j a. addF binary64 a (f j)) k (of_bits binary64 0) ≡ whole (sum_over_ℤ (upto k) v)
sum_up f v zero h l = zero_literal ∙ ap whole (sym (sum_upto_zero integers v))
sum_up f v (suc k) h l =
    let e = sum_upto_suc naturals k (λ j. nat_abs (v j)) in
    let b : nat_abs (sum_over_ℤ (upto k) v) ≤ sum_over (upto k) (λ j. nat_abs (v j)) = size_le (upto k) v in
    ap₂ (addF binary64) (sum_up f v k (λ j p. h j (omega arith)) (omega arith)) (h k (omega arith))
    ∙ add_whole (sum_over_ℤ (upto k) v) (v k) (omega arith) (omega arith) ∙ ap whole (sym (sum_upto_suc integers k v))

-- the sum of k numbers, then those numbers
abbrev labelled : (𝓜 : Additive) → (ℕ → 𝓜.Carrier) → ℕ → ℕ → 𝓜.Carrier
labelled 𝓜 w k zero = sum_in 𝓜 (upto k) w
labelled 𝓜 w k (suc j) = w j

-- the entries past k are 0
module _ (v : ℕ → ℤ) (k : ℕ) where
  abbrev cut : ℕ → ℤ
  cut j = get_or (map v (upto k)) j (pos 0)

  cut_in : (j : ℕ) → j < k → cut j ≡ v j
  cut_in j h = get_or_map_lt v (upto k) j 0 (pos 0) (rw length_upto h) ∙ ap v (get_or_upto k j 0 h)

  cut_out : (j : ℕ) → (j < k → ⊥) → cut j ≡ pos 0
  cut_out j h = get_or-eq_default (map v (upto k)) (pos 0) {n = j} (omega (arith, length-map (upto k) v, length_upto k))

  cut_sizes : sum_over (upto k) (λ j. nat_abs (cut j)) ≡ sum_over (upto k) (λ j. nat_abs (v j))
  cut_sizes = sum_cong_on naturals (every_weaken (λ j h. ap nat_abs (cut_in j h)) (upto_below k))

  -- each label's number, for numbers in f64 that are whole
  number_is : (f : ℕ → Float) → ((j : ℕ) → j < k → f j ≡ whole (v j)) → sum_over (upto k) (λ j. nat_abs (v j)) ≤ 2 ^ 53
      → (a : ℕ) → number_at (ascend (λ j a. addF binary64 a (f j)) k (of_bits binary64 0) ∷ map f (upto k)) a ≡ whole (labelled integers cut k a)
  number_is f h l zero = sum_up f v k h l ∙ ap whole (sum_cong_on integers (every_weaken (λ j p. sym (cut_in j p)) (upto_below k)))
  number_is f h l (suc j) = go (dec_lt j k)
    where
      go : Dec (j < k) → get_or (map f (upto k)) j (whole (pos 0)) ≡ whole (cut j)
      go (yes p) = get_or_map_lt f (upto k) j 0 (whole (pos 0)) (rw length_upto p) ∙ ap f (get_or_upto k j 0 p) ∙ h j p ∙ ap whole (sym (cut_in j p))
      go (no p) = get_or-eq_default (map f (upto k)) (whole (pos 0)) {n = j} (omega (arith, length-map (upto k) f, length_upto k)) ∙ ap whole (sym (cut_out j p))

  label_le : (a : ℕ) → nat_abs (labelled integers cut k a) ≤ labelled naturals (λ j. nat_abs (cut j)) k a
  label_le zero = size_le (upto k) cut
  label_le (suc j) = le_refl _

  label_small : sum_over (upto k) (λ j. nat_abs (v j)) ≤ 2 ^ 53 → (a : ℕ) → Small (labelled integers cut k a)
  label_small l zero = omega (arith, size_le (upto k) cut, cut_sizes)
  label_small l (suc j) = go (dec_lt j k)
    where
      go : Dec (j < k) → nat_abs (cut j) ≤ 2 ^ 53
      go (yes p) = omega (arith, sum_member (λ i. nat_abs (cut i)) (mem_upto p), cut_sizes)
      go (no p) = rw (cut_out j p) (omega arith)

-- ---- the racks, leave by leave

module _ (n r : ℕ) (sizes : served n r ≡ true) where
  one_less : suc (r - 1) ≡ r
  one_less = let t = (facts n r sizes).some_tile in omega arith

  all_racks : (𝓜 : Additive) (g : List ℕ → 𝓜.Carrier) → sum_in 𝓜 (tallies n r) g ≡ sum_in 𝓜 (tallies n (r - 1)) (λ t. sum_in 𝓜 (upto (extent t)) (λ j. g (extension t j)))
  unfolding extensions
  all_racks 𝓜 g =
      ap (λ (k : ℕ). sum_in 𝓜 (tallies n k) g) (sym one_less) ∙ ap (λ (l : List (List ℕ)). sum_in 𝓜 l g) (racks_extend n (r - 1) (facts n r sizes).some_letter)
      ∙ sum_concat_map 𝓜 extensions (tallies n (r - 1)) g ∙ sum_cong 𝓜 (tallies n (r - 1)) (λ t. sum_map 𝓜 (extension t) (upto (extent t)) g)

  module _ (t : List ℕ) (f : Fits n (r - 1) t) where
    some_letter : 0 < length t
    some_letter = omega (arith, f.letters, (facts n r sizes).some_letter)

    rack_fits : (j : ℕ) → Fits n r (extension t j)
    rack_fits j =
        record {
          letters = length_add_tile t (length t - 1 - j) ∙ f.letters;
          tiles = total_add_tile t (length t - 1 - j) (let h = some_letter in omega arith) ∙ ap suc f.tiles ∙ one_less;
        }

    rack_rank : (j : ℕ) → j < extent t → rank_of n (extension t 0) + j ≡ rank_of n (extension t j)
    rack_rank j h = sym (subst (λ (k : ℕ). rank_of k (extension t j) ≡ rank_of k (extension t 0) + j) f.letters (extension_rank t j some_letter h))

-- the racks that extend a leave have ranks from lo on, and below the end
pub taking : {n r lo racks size rank stop first values counts : ℕ} {t : List ℕ} → Spreading n r lo racks size → Leave n r rank t stop first
    → values ≡ length t - stop + 2 → counts ≡ length t - stop + 2 → Taking lo first racks size values counts
taking {n} {r} {lo} {size = size} {stop = stop} {first = first} {t = t} d h v w =
    let f : Fits n (r - 1) t = record { letters = h.letters; tiles = omega (arith, h.tiles) } in
    let g = leave_stop d.sizes h in
    let R = extension t (length t - stop) in
    let last : rank_of n (extension t 0) + (length t - stop) ≡ rank_of n R = rack_rank n r d.sizes t f (length t - stop) (omega (arith, h.stops)) in
    let fits = rack_fits n r d.sizes t f in
    let below : rank_of n R < length (lattice n r) = rank_below n r R (record { letters = (fits (length t - stop)).letters; tiles = le_of_eq (fits (length t - stop)).tiles }) in
    let from : start n r ≤ rank_of n (extension t 0) = subst (λ (k : ℕ). start n k ≤ rank_of n (extension t 0)) (fits 0).tiles (rank_from n (extension t 0)) in
    record {
      some = omega arith;
      same = omega arith;
      few = omega (arith, g.0, g.1, g.2);
      low = omega (arith, from, d.from, h.starts);
      inside = omega (arith, below, last, h.starts, d.all, length_lattice_start n r, start_suc n r);
      full = d.full;
    }

-- weight is what a full rack has of ways, value what it counts for, both whole in f64
pub record Counted (n r lo : ℕ) (table : List Float) (x : ℕ → Float) (weight : List ℕ → ℕ) (value : List ℕ → ℤ) : Type 0 where
  pub sizes : served n r ≡ true
  pub counts : (R : List ℕ) → Fits n r R → ways_at lo table (rank_of n R) ≡ whole (pos (weight R))
  pub values : (R : List ℕ) → Fits n r R → x (rank_of n R) ≡ whole (value R)
  pub nothing : (R : List ℕ) → weight R ≡ 0 → value R ≡ pos 0
  pub few : sum_over (tallies n r) weight ≤ 2 ^ 53
  pub small : sum_over (tallies n r) (λ R. nat_abs (value R)) ≤ 2 ^ 53

module _ (n r lo : ℕ) (table : List Float) (x : ℕ → Float) (weight : List ℕ → ℕ) (value : List ℕ → ℤ) (d : Counted n r lo table x weight value) (m : List ℕ) (letters : length m ≡ n) where
  -- what a rack counts for at m
  abbrev part : List ℕ → ℤ
  part R = cond (holds R m) (value R) (pos 0)

  part_le : (R : List ℕ) → nat_abs (part R) ≤ nat_abs (value R)
  part_le R = go (holds R m)
    where
      go : (b : Bool) → nat_abs (cond b (value R) (pos 0)) ≤ nat_abs (value R)
      go true = le_refl _
      go false = omega arith

  -- the racks that extend a leave
  abbrev parts_of : List ℕ → ℤ
  parts_of t = sum_over_ℤ (upto (extent t)) (λ j. part (extension t j))

  abbrev sizes_of : List ℕ → ℕ
  sizes_of t = sum_over (upto (extent t)) (λ j. nat_abs (value (extension t j)))

  abbrev ways_of : List ℕ → ℕ
  ways_of t = sum_over (upto (extent t)) (λ j. weight (extension t j))

  parts_le : (t : List ℕ) → nat_abs (parts_of t) ≤ sizes_of t
  parts_le t = le_trans (size_le (upto (extent t)) (λ j. part (extension t j))) (sum_le (every_weaken (λ j h. part_le (extension t j)) (upto_below (extent t))))

  module _ (t : List ℕ) (f : Fits n (r - 1) t) (few : ways_of t ≤ 2 ^ 53) (small : sizes_of t ≤ 2 ^ 53) where
    -- the test on the sum of their ways
    drawn : lt (of_bits binary64 0) (sum_from (ways_at lo table) (rank_of n (extension t 0)) (extent t)) ≡ ltb 0 (ways_of t)
    drawn =
        ap (lt (of_bits binary64 0))
        (sum_up (λ j. ways_at lo table (rank_of n (extension t 0) + j)) (λ j. pos (weight (extension t j))) (extent t)
        (λ j h. ap (ways_at lo table) (rack_rank n r d.sizes t f j h) ∙ d.counts (extension t j) (rack_fits n r d.sizes t f j)) few
        ∙ ap whole (sym (pos_sum (upto (extent t)) (λ j. weight (extension t j)))))
        ∙ above_zero (ways_of t) few

    -- without ways they count for nothing
    undrawn : ways_of t ≤ 0 → parts_of t ≡ pos 0
    undrawn h = sum_cong_on integers (every_weaken none (upto_below (extent t))) ∙ sum_none integers (upto (extent t))
      where
        same : (b : Bool) → cond b (pos 0) (pos 0) ≡ pos 0
        same true = refl
        same false = refl

        none : (j : ℕ) → j < extent t → part (extension t j) ≡ pos 0
        none j l =
            let z : weight (extension t j) ≡ 0 = omega (arith, sum_member (λ i. weight (extension t i)) (mem_upto l)) in
            ap (λ (v : ℤ). cond (holds (extension t j) m) v (pos 0)) (d.nothing (extension t j) z) ∙ same (holds (extension t j) m)

    -- what the walk of the leave adds at m
    added_at : (xs : List Float) (z : ℤ) → rank_of n m < length xs → get_or xs (rank_of n m) nan ≡ whole z → nat_abs z + sizes_of t ≤ 2 ^ 53
        → get_or (add_each (extended n t (stop_of t - 1)) (numbers x (rank_of n (extension t 0)) (extent t)) xs) (rank_of n m) nan ≡ whole (z +ℤ parts_of t)
    added_at xs z inside e bound =
        add_each_at (extended n t l) (numbers x (rank_of n (extension t 0)) (extent t)) (labelled integers w (extent t)) (labelled naturals (λ j. nat_abs (w j)) (extent t)) (rank_of n m) xs z adds (label_le v (extent t)) inside e
        (omega (arith, at_most_lem, cut_sizes v (extent t)))
        ∙ ap (λ (y : ℤ). whole (z +ℤ y)) (extended_sum integers n t m l f.letters letters below absent (labelled integers w (extent t)) (again integers w) ∙ as_parts)
      where
        v : ℕ → ℤ
        v j = value (extension t j)

        w : ℕ → ℤ
        w = cut v (extent t)

        l : ℕ
        l = stop_of t - 1

        below : l < n
        below = omega (arith, f.letters, stop_low t (some_letter n r d.sizes t f), stop_high t)

        racks : suc (n - suc l) ≡ extent t
        racks = omega (arith, f.letters, stop_low t (some_letter n r d.sizes t f), stop_high t)

        absent : Absent t (suc l) n
        absent = record { none = λ j h q. stop_none t j (omega (arith, stop_low t (some_letter n r d.sizes t f))) }

        again : (𝓜 : Additive) (g : ℕ → 𝓜.Carrier) → sum_in 𝓜 (upto (extent t)) g ≡ sum_in 𝓜 (upto (suc (n - suc l))) g
        again 𝓜 g = ap (λ (j : ℕ). sum_in 𝓜 (upto j) g) (sym racks)

        rack_value : (j : ℕ) → j < extent t → x (rank_of n (extension t 0) + j) ≡ whole (v j)
        rack_value j h = ap x (rack_rank n r d.sizes t f j h) ∙ d.values (extension t j) (rack_fits n r d.sizes t f j)

        adds : (a : ℕ) → Adds (number_at (numbers x (rank_of n (extension t 0)) (extent t)) a) (labelled integers w (extent t) a)
        adds a =
            record {
              step = λ y s.
                  ap (addF binary64 (whole y)) (number_is v (extent t) (λ j. x (rank_of n (extension t 0) + j)) rack_value small a)
                  ∙ add_whole y (labelled integers w (extent t) a) s (label_small v (extent t) small a);
            }

        at_most_lem : sum_over (extended n t l) (λ p. cond (eqb (rank_of n m) p.0) (labelled naturals (λ j. nat_abs (w j)) (extent t) p.1) 0) ≤ sum_over (upto (extent t)) (λ j. nat_abs (w j))
        at_most_lem =
            le_trans (le_of_eq (extended_sum naturals n t m l f.letters letters below absent (labelled naturals (λ j. nat_abs (w j)) (extent t)) (again naturals (λ j. nat_abs (w j)))))
            (le_trans (sum_le (every_weaken (λ j h. cond_le (holds (add_tile t (n - 1 - j)) m) (nat_abs (w j))) (upto_below (suc (n - suc l))))) (le_of_eq (sym (again naturals (λ j. nat_abs (w j))))))

        as_parts : sum_over_ℤ (upto (suc (n - suc l))) (λ j. cond (holds (add_tile t (n - 1 - j)) m) (w j) (pos 0)) ≡ parts_of t
        as_parts =
            sym (again integers (λ j. cond (holds (add_tile t (n - 1 - j)) m) (w j) (pos 0)))
            ∙ sum_cong_on integers
            (every_weaken (λ j h. ap₂ (λ (i : ℕ) (a : ℤ). cond (holds (add_tile t (i - 1 - j)) m) a (pos 0)) (sym f.letters) (cut_in v (extent t) j h)) (upto_below (extent t)))

    -- one leave more
    leave_at : (xs : List Float) (z : ℤ) → rank_of n m < length xs → get_or xs (rank_of n m) nan ≡ whole z → nat_abs z + sizes_of t ≤ 2 ^ 53
        → get_or (leave_added n lo table x t xs) (rank_of n m) nan ≡ whole (z +ℤ parts_of t)
    unfolding leave_added
    leave_at xs z inside e bound =
        ap (λ (b : Bool). get_or (cond b (add_each (extended n t (stop_of t - 1)) (numbers x (rank_of n (extension t 0)) (extent t)) xs) xs) (rank_of n m) nan) drawn
        ∙ by (ltb 0 (ways_of t)) (nltb→le 0 (ways_of t))
      where
        by : (b : Bool) → (T (not b) → ways_of t ≤ 0) → get_or (cond b (add_each (extended n t (stop_of t - 1)) (numbers x (rank_of n (extension t 0)) (extent t)) xs) xs) (rank_of n m) nan ≡ whole (z +ℤ parts_of t)
        by true g = added_at xs z inside e bound
        by false g = e ∙ ap whole (sym (ap (λ (y : ℤ). z +ℤ y) (undrawn (g tt)) ∙ +ℤ_idr z))

  -- the leaves below a place
  leaves_at : (k : ℕ) → k ≤ length (tallies n (r - 1)) → (xs : List Float) → rank_of n m < length xs → get_or xs (rank_of n m) nan ≡ whole (pos 0)
      → get_or (ascend (λ j. spread_leave n r lo table x (start n (r - 1) + j)) k xs) (rank_of n m) nan ≡ whole (sum_over_ℤ (take k (tallies n (r - 1))) parts_of)
  leaves_at zero h xs inside e = e
  leaves_at (suc k) h xs inside e =
      let ts = tallies n (r - 1) in
      let t = get_or ts k [] in
      let ys = ascend (λ j. spread_leave n r lo table x (start n (r - 1) + j)) k xs in
      let more : take (suc k) ts ≡ take k ts ++ (t ∷ []) = take-suc ts k [] h in
      let member = mem_at ts k [] h in
      let few : ways_of t ≤ 2 ^ 53 = omega (arith, sum_member ways_of member, all_racks n r d.sizes naturals weight, d.few) in
      let small : sizes_of t ≤ 2 ^ 53 = omega (arith, sum_member sizes_of member, all_racks n r d.sizes naturals (λ R. nat_abs (value R)), d.small) in
      let together : sum_over (take k ts) sizes_of + sizes_of t ≤ 2 ^ 53 =
      omega (arith, sum_append naturals (take k ts) (t ∷ []) sizes_of, ap (λ (l : List (List ℕ)). sum_over l sizes_of) more, take_le sizes_of (suc k) ts, all_racks n r d.sizes naturals (λ R. nat_abs (value R)), d.small)
      in
      let done : nat_abs (sum_over_ℤ (take k ts) parts_of) ≤ sum_over (take k ts) sizes_of =
      le_trans (size_le (take k ts) parts_of) (sum_le (every_member (take k ts) (λ q h. parts_le q))) in
      ap (λ (q : List ℕ). get_or (leave_added n lo table x q ys) (rank_of n m) nan) (block_at n r (r - 1) k (omega arith) h)
      ∙ leave_at t (tally_at_fits n (r - 1) k h) few small ys (sum_over_ℤ (take k ts) parts_of) (rw (length_leaves n r lo table x (start n (r - 1)) k xs) inside) (leaves_at k (omega arith) xs inside e) (omega arith)
      ∙ ap whole (sym (ap (λ (l : List (List ℕ)). sum_over_ℤ l parts_of) more ∙ sum_append integers (take k ts) (t ∷ []) parts_of ∙ ap (λ (y : ℤ). sum_over_ℤ (take k ts) parts_of +ℤ y) (+ℤ_idr (parts_of t))))

  -- the sum over the racks that hold m
  spread_sum : lo ≡ start n r → (xs : List Float) → rank_of n m < length xs → get_or xs (rank_of n m) nan ≡ whole (pos 0) → get_or (spread_all n r lo table x xs) (rank_of n m) nan ≡ whole (sum_over_ℤ (tallies n r) part)
  spread_sum from xs inside e =
      let ts = tallies n (r - 1) in
      let all : lo - start n (r - 1) ≡ length ts = omega (arith, start_next n (r - 1), ap (start n) (one_less n r d.sizes)) in
      ap (λ (k : ℕ). get_or (ascend (λ j. spread_leave n r lo table x (start n (r - 1) + j)) k xs) (rank_of n m) nan) all
      ∙ leaves_at (length ts) (le_refl _) xs inside e
      ∙ ap whole (ap (λ (l : List (List ℕ)). sum_over_ℤ l parts_of) (take-length ts) ∙ sym (all_racks n r d.sizes integers part))

-- ---- the sums over the hands

module _ (n r : ℕ) (add pool : List ℕ) (table : List Float) (bests : List ℤ) (best : List ℕ → ℤ) (M : ℕ) (d : Read n r add pool table bests best M) (sizes : served n r ≡ true) where
  -- the whole numbers of any weighing
  within_limit : (rackF : ℕ → Float) (worth : List ℕ → ℤ) (N : ℕ) → Weighed n r add pool rackF worth N → sum_over (tallies n r) (λ R. nat_abs (pos (ways pool R) *ℤ worth R)) ≤ 2 ^ 53
  within_limit rackF worth N g =
      le_trans (sum_le (every_member (tallies n r) (λ R m. value_le n r pool worth N g.letters g.most R (tallies_fit n r R m))))
      (le_trans (le_of_eq (sum_weights naturals (tallies n r) (ways pool) N ∙ ap (λ (k : ℕ). k * N) (ap (λ (k : ℕ). sum_over (tallies k r) (ways pool)) (sym g.letters) ∙ ways_total pool r))) g.limit)

  few_hands : sum_over (tallies n r) (ways pool) ≤ 2 ^ 53
  few_hands = le_trans (le_of_eq (ap (λ (k : ℕ). sum_over (tallies k r) (ways pool)) (sym d.letters) ∙ ways_total pool r)) (all_small n r add pool table bests best M d)

  ways_small : (R : List ℕ) → Fits n r R → ways pool R ≤ 2 ^ 53
  ways_small R f = le_trans (sum_member (ways pool) (tallies_all n r R f)) few_hands

  -- what a rack counts for, whole
  drawn_whole : (R : List ℕ) → Fits n r R → drawn_at (start n r) table bests (rank_of n R) ≡ whole (pos (ways pool R) *ℤ best R)
  drawn_whole R f =
      ap (λ (w : Float). drawn_value w (at_ℤ bests (rank_of n R))) (d.ways_are R f)
      ∙ ap (λ (b : Bool). cond b (mul binary64 (whole (pos (ways pool R))) (whole (at_ℤ bests (rank_of n R)))) (of_bits binary64 0)) (above_zero (ways pool R) (ways_small R f))
      ∙ go (ltb 0 (ways pool R)) (ltb→lt 0 (ways pool R)) (nltb→le 0 (ways pool R))
    where
      go : (b : Bool) → (T b → 0 < ways pool R) → (T (not b) → ways pool R ≤ 0) → cond b (mul binary64 (whole (pos (ways pool R))) (whole (at_ℤ bests (rank_of n R)))) (of_bits binary64 0) ≡ whole (pos (ways pool R) *ℤ best R)
      go true p q =
          mul_whole_above (ways pool R) (at_ℤ bests (rank_of n R)) (p tt) (ways_small R f) (d.small (rank_of n R))
          ∙ ap (λ (b : ℤ). whole (pos (ways pool R) *ℤ b)) (d.bests_are R f (ways_drawable pool R (f.letters ∙ sym d.letters) (p tt)))
      go false p q =
          let z : ways pool R ≡ 0 = let h = q tt in omega arith in
          zero_literal ∙ ap whole (sym (ap (λ (w : ℕ). pos w *ℤ best R) z ∙ zero-*ℤ (best R)))

  values_counted : Counted n r (start n r) table (drawn_at (start n r) table bests) (ways pool) (λ R. pos (ways pool R) *ℤ best R)
  values_counted =
      record {
        sizes = sizes;
        counts = d.ways_are;
        values = drawn_whole;
        nothing = λ R z. ap (λ (w : ℕ). pos w *ℤ best R) z ∙ zero-*ℤ (best R);
        few = few_hands;
        small = within_limit _ best M (num_weighed n r add pool table bests best M d);
      }

  ways_counted : Counted n r (start n r) table (ways_at (start n r) table) (ways pool) (λ R. pos (ways pool R) *ℤ pos 1)
  ways_counted =
      record {
        sizes = sizes;
        counts = d.ways_are;
        values = λ R f. d.ways_are R f ∙ ap (λ (k : ℕ). whole (pos k)) (sym (mul-one (ways pool R)));
        nothing = λ R z. ap (λ (w : ℕ). pos w *ℤ pos 1) z;
        few = few_hands;
        small = within_limit _ (λ t. pos 1) 1 (den_weighed n r add pool table bests best M d);
      }

  by_hands : (worth : List ℕ → ℤ) (m : List ℕ) → sum_over_ℤ (tallies n r) (λ R. cond (holds R m) (pos (ways pool R) *ℤ worth R) (pos 0)) ≡ hand_sum pool r worth m
  by_hands worth m = sym (hand_sum_cond pool r worth m ∙ ap (λ (k : ℕ). sum_over_ℤ (tallies k r) (λ R. cond (holds R m) (pos (ways pool R) *ℤ worth R) (pos 0))) d.letters)

  module _ (num den : List Float) (nums : length num ≡ start n r) (dens : length den ≡ start n r) (clear_num : Clear num) (clear_den : Clear den) where
    -- THE SPREAD: from sums of +0.0, the same sums as the fold
    pub spread_sums : Summed n r pool best (spread_all n r (start n r) table (drawn_at (start n r) table bests) num) (spread_all n r (start n r) table (ways_at (start n r) table) den)
    spread_sums =
        record {
          nums = length_leaves n r (start n r) table (drawn_at (start n r) table bests) (start n (r - 1)) (start n r - start n (r - 1)) num ∙ nums;
          dens = length_leaves n r (start n r) table (ways_at (start n r) table) (start n (r - 1)) (start n r - start n (r - 1)) den ∙ dens;
          sum = λ m l h.
              let i : rank_of n m < length num = rw nums (leave_rank n r m l h) in
              spread_sum n r (start n r) table (drawn_at (start n r) table bests) (ways pool) (λ R. pos (ways pool R) *ℤ best R) values_counted m l refl num i (clear_num (rank_of n m) i)
              ∙ ap whole (by_hands best m);
          count = λ m l h.
              let i : rank_of n m < length den = rw dens (leave_rank n r m l h) in
              spread_sum n r (start n r) table (ways_at (start n r) table) (ways pool) (λ R. pos (ways pool R) *ℤ pos 1) ways_counted m l refl den i (clear_den (rank_of n m) i)
              ∙ ap whole (by_hands (λ t. pos 1) m ∙ hand_ones pool r m);
        }

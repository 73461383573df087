-- The scatter and leave's subset maximum as whole tables, by rank, so that a small board computes. Assumes nothing.
use Rattle.std.specs.Prelude.{◌≡◌, ℕ, ◌<◌, Bool, true, false, cond, List, [], map, length, ℤ, pos, ◌≤ℤ◌, ◌==◌, slice_index_or, refl}
use Rattle.std.proofs.Common.{sym, ap, ◌∙◌, subst, arith, eqb-true, ext_get_or}
use Rattle.std.proofs.lemmas.Bool.{eqb-false}
use Rattle.std.proofs.lemmas.List.{length-map}
use Rattle.laws.specs.Every.{every_member}
use Rattle.laws.specs.Greatest.{GreatestOver}
use Rattle.laws.specs.Integer.{at_ℤ}
use Rattle.laws.specs.Lists.{get_or_map_lt}
use Rattle.lattice.specs.Tally.{total, lattice, start, rank_of, parts}
use Rattle.lattice.specs.Rank.{AtMost, at_fits, at_rank, rank_at, rank_below}
use Rattle.lattice.specs.Leaves.{leave_rank}
use Rattle.lattice.specs.Parts.{Within-refl, parts_all}
use Rattle.search.specs.Split.{best_of}
use Rattle.search.specs.Best.{best_of_attained, best_of_bound}
use Rattle.maxima.specs.Maxima.{SubsetMax}
use Rattle.scatter.specs.Scatter.{scatter_at}
use Rattle.scatter.specs.Every.{IsScatter}

-- ---- the scatter

-- "It starts from leave_max, leave's subset maximum. A full rack R then gets .."
unfoldable pub scatter_table : List ℤ → List ℤ → List ℤ → List ℕ → ℕ → List ℤ
scatter_table sheet leave leave_max pool r =
    map (λ R. cond (total R == r) (scatter_at sheet leave pool (length pool) leave_max R) (at_ℤ leave_max (rank_of (length pool) R))) (lattice (length pool) r)

-- what the scatter leaves is this table
pub is_table : {sheet leave leave_max best : List ℤ} {pool : List ℕ} {r : ℕ} → IsScatter sheet leave leave_max pool r best → length leave_max ≡ length (lattice (length pool) r)
    → best ≡ scatter_table sheet leave leave_max pool r
unfolding scatter_table
is_table {sheet} {leave} {leave_max} {best} {pool} {r} s l =
    ext_get_or (pos 0) best (map entry all) (s.long ∙ l ∙ sym (length-map all entry)) (λ i h. let k : i < length all = rw (s.long, l) at h in at i k ∙ sym (get_or_map_lt entry all i [] (pos 0) k))
  where
    all : List (List ℕ)
    all = lattice (length pool) r

    entry : List ℕ → ℤ
    entry R = cond (total R == r) (scatter_at sheet leave pool (length pool) leave_max R) (at_ℤ leave_max (rank_of (length pool) R))

    here : (i : ℕ) (R : List ℕ) → AtMost (length pool) r R → rank_of (length pool) R ≡ i → (b : Bool) → (total R == r) ≡ b
        → at_ℤ best i ≡ cond b (scatter_at sheet leave pool (length pool) leave_max R) (at_ℤ leave_max (rank_of (length pool) R))
    here i R f e true t = ap (at_ℤ best) (sym e) ∙ s.full R f.letters (eqb-true (total R) r t)
    here i R f e false t =
        let few : total R < r = (let d = eqb-false (total R) r t in let m = f.tiles in omega arith) in
        s.below i (subst (λ (k : ℕ). k < start (length pool) r) e (leave_rank (length pool) r R f.letters few)) ∙ ap (at_ℤ leave_max) (sym e)

    at : (i : ℕ) → i < length all → at_ℤ best i ≡ entry (slice_index_or all i [])
    at i h = here i (slice_index_or all i []) (at_fits (length pool) r i h) (rank_at (length pool) r i h) (total (slice_index_or all i []) == r) refl

-- ---- the subset maximum

unfoldable pub subset_max_table : ℕ → ℕ → List ℤ → List ℤ
subset_max_table n r d = map (λ y. best_of (λ p. at_ℤ d (rank_of n p)) (parts y)) (lattice n r)

pub table_max : (n r : ℕ) (d : List ℤ) → SubsetMax n r d (subset_max_table n r d)
unfolding subset_max_table
table_max n r d y l t = subst (GreatestOver ◌≤ℤ◌ (parts y) entry) (sym at) greatest
  where
    entry : List ℕ → ℤ
    entry p = at_ℤ d (rank_of n p)

    fits : AtMost n r y
    fits = record { letters = l; tiles = t }

    at : at_ℤ (map (λ z. best_of entry (parts z)) (lattice n r)) (rank_of n y) ≡ best_of entry (parts y)
    at = get_or_map_lt (λ z. best_of entry (parts z)) (lattice n r) (rank_of n y) [] (pos 0) (rank_below n r y fits) ∙ ap (λ (z : List ℕ). best_of entry (parts z)) (at_rank n r y fits)

    greatest : GreatestOver ◌≤ℤ◌ (parts y) entry (best_of entry (parts y))
    greatest =
        let v = best_of_attained entry (parts y) (parts_all y y (Within-refl y)) in
        record { above = every_member (parts y) (λ p m. best_of_bound entry (parts y) m); at = v.part; there = v.there; attained = v.is }

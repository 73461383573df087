-- What the functions use: where the letters end, and a tile that is put on and taken back. Assumes nothing.
use mathlib.Core.Path.{◌≡◌, refl, sym, ap, ap₂, ◌∙◌, subst}
use mir.Syntax.{w8}
use mir.Val.{Fits}
use mathlib.Core.Bool.{true}
use native.Mathlib.Decide.{dec_lt}
use mathlib.Core.List.{List, [], ◌∷◌}
use Prim.Native.Nat.{ℕ, zero, suc, ◌+◌, ◌-◌, ◌≤◌, ◌<◌}
use native.Mathlib.Omega.{arith}
use lib.ListN.{length, get_or, set, length-set}
use Rattle.lattice.specs.Tally.{total, rank_of, start, add_tile_is, start_suc}
use Rattle.lattice.specs.Rank.{total_add_tile, rank_from, rank_to}
use Rattle.lattice.specs.Answers.{served, TallyAt}
use Rattle.lattice.specs.Served.{facts}
use Rattle.binomials.specs.Binomial.{binomial}
use Rattle.lattice.specs.Tallies.{start_mono}
use Rattle.lattice.proofs.Counts.{get_or_le_total}
use Rattle.extensions.specs.Extensions.{stop_of, extension, stop_none, stop_tile, stop_low, stop_high}
use Rattle.extensions.specs.Racks.{Leave}

-- the letters end after the last one that is there
pub stop_after : (t : List ℕ) (last : ℕ) → last < length t → (get_or t last 0 ≡ 0 → ⊥) → ((j : ℕ) → last < j → j < length t → get_or t j 0 ≡ 0) → last + 1 ≡ stop_of t
stop_after t last inside here after = go (dec_lt last (stop_of t)) (dec_lt (last + 1) (stop_of t))
  where
    go : Dec (last < stop_of t) → Dec (last + 1 < stop_of t) → last + 1 ≡ stop_of t
    go (no low) q = absurd (here (stop_none t last (omega arith)))
    go (yes low) (yes high) = absurd (stop_tile t (omega arith) (after (stop_of t - 1) (omega arith) (omega (arith, stop_high t))))
    go (yes low) (no high) = omega arith

pub stop_alone : (t : List ℕ) → 0 < length t → ((j : ℕ) → j < length t → get_or t j 0 ≡ 0) → 1 ≡ stop_of t
stop_alone t some none = go (dec_lt 1 (stop_of t))
  where
    go : Dec (1 < stop_of t) → 1 ≡ stop_of t
    go (yes high) = absurd (stop_tile t high (none (stop_of t - 1) (omega (arith, stop_high t))))
    go (no high) = omega (arith, stop_low t some)

added_last : (t : List ℕ) → set t (length t - 1) (get_or t (length t - 1) 0 + 1) ≡ extension t 0
added_last t =
    let k : length t - 1 - 0 ≡ length t - 1 = omega arith in
    let e : get_or t (length t - 1) 0 + 1 ≡ suc (get_or t (length t - 1) 0) = omega arith in
    ap (set t (length t - 1)) e ∙ sym (add_tile_is t (length t - 1 - 0) ∙ ap (λ (i : ℕ). set t i (suc (get_or t i 0))) k)

pub taken_back : (t : List ℕ) (i x : ℕ) → set (set t i x) i (get_or t i 0) ≡ t
taken_back [] i x = refl
taken_back (c ∷ cs) zero x = refl
taken_back (c ∷ cs) (suc i) x = ap {B = List ℕ} (λ l. c ∷ l) (taken_back cs i x)

total_last : (t : List ℕ) → 0 < length t → total (extension t 0) ≡ suc (total t)
total_last t h = total_add_tile t (length t - 1 - 0) (omega arith)

-- a rank among those of the leaves of one tile less than a rack
module _ (n r rank : ℕ) (e : served n r ≡ true) (low : start n (r - 1) ≤ rank) (high : rank < start n r) where
  pub rank_inside : rank < binomial (r + n) n
  rank_inside = let m : start n r ≤ start n (suc r) = start_mono n (omega arith) in omega (arith, start_suc n r)

  pub leave_tiles : {t : List ℕ} → TallyAt n r rank t → suc (total t) ≡ r
  leave_tiles {t} a = go (dec_lt (total t) r) (dec_lt (total t) (r - 1))
    where
      from : start n (total t) ≤ rank
      from = omega (arith, rank_from n t, a.rank)

      to : rank < start n (suc (total t))
      to = omega (arith, rank_to n t a.letters, a.rank)

      go : Dec (total t < r) → Dec (total t < r - 1) → suc (total t) ≡ r
      go (no h) q = absurd (let m : start n r ≤ start n (total t) = start_mono n (omega arith) in omega (arith, from))
      go (yes h) (yes l) = absurd (let m : start n (suc (total t)) ≤ start n (r - 1) = start_mono n (omega arith) in omega (arith, to))
      go (yes h) (no l) = omega arith

  pub leave_made : {t u : List ℕ} {stop first : ℕ} → TallyAt n r rank t → stop ≡ stop_of t → (first ≡ rank_of (length t) (extension t 0)) × (u ≡ t) → Leave n r rank u stop first
  leave_made {t} {stop = stop} {first} a p q =
      subst (λ (v : List ℕ). Leave n r rank v stop first) (sym q.1)
      (record { letters = a.letters; tiles = leave_tiles a; ranked = a.rank; stops = p; starts = q.0 ∙ ap (λ (k : ℕ). rank_of k (extension t 0)) a.letters })

-- the tile that is put on
module _ {r : ℕ} (t : List ℕ) (e : served (length t) r ≡ true) (q : suc (total t) ≡ r) where
  pub added_fits : Fits w8 (get_or t (length t - 1) 0 + 1)
  added_fits = record { fits = omega (arith, get_or_le_total t (length t - 1), (facts (length t) r e).tiles) }

  abbrev put : List ℕ
  put = set t (length t - 1) (get_or t (length t - 1) 0 + 1)

  pub added_tiles : total put ≤ r
  added_tiles = omega (arith, ap total (added_last t), total_last t (facts (length t) r e).some_letter)

  pub added_rank : {k : ℕ} → k ≡ rank_of (length put) put → k ≡ rank_of (length t) (extension t 0)
  added_rank h = h ∙ ap₂ rank_of (length-set t (length t - 1) (get_or t (length t - 1) 0 + 1)) (added_last t)

-- Every draw makes a full rack, so that its best stands in the table; and the sum over draws is the sum over racks, weighted by ways.
-- Assumes nothing.
use Rattle.std.specs.Prelude.{◌≡◌, refl, Bool, true, false, not, List, ℕ, ◌*◌, ◌≤◌, ◌<◌, eqb, ℤ, pos, ◌*ℤ◌}
use Rattle.std.proofs.Common.{sym, ap, ◌∙◌, mul-zero, arith, eqb-true, eq-eqb}
use Rattle.std.proofs.Math.ListN.{length}
use Rattle.laws.specs.Integer.{at_ℤ}
use Rattle.laws.specs.Every.{Every, every_weaken, every_member}
use Rattle.laws.specs.Sums.{naturals, sum_over, sum_over_ℤ, bit, sum_none, sum_cong_on, sum_member}
use Rattle.binomials.specs.Binomial.{binomial}
use Rattle.lattice.specs.Tally.{total, tallies, lattice, tally_at, rank_of, plus}
use Rattle.lattice.specs.Tallies.{Fits}
use Rattle.lattice.specs.Lattice.{length_lattice}
use Rattle.lattice.specs.Rank.{at_fits}
use Rattle.lattice.specs.Parts.{length_plus, total_plus}
use Rattle.hands.specs.Hands.{Tile, hands, rack_of, ways, hands_count, tallies_every}
use Rattle.hands.proofs.Hands.{sum_hands-ℕ, sum_hands-ℤ}
use Rattle.hands.specs.Partings.{length_rack}
use Rattle.draws.specs.Draws.{rack_after, best_after, draw_count, draw_sum, Fills}

-- what holds of every tally of d tiles holds of the rack of every hand of d tiles
module _ (pool : List ℕ) (d : ℕ) (test : List ℕ → Bool) (all : Every (λ t. test t ≡ true) (tallies (length pool) d)) where
  abbrev fails : List ℕ → ℕ
  fails t = bit (not (test t))

  none_fail : sum_over (hands pool d) (λ h. fails (rack_of (length pool) h)) ≡ 0
  none_fail =
      sum_hands-ℕ pool d fails
      ∙ sum_cong_on naturals (every_weaken (λ t e. ap (λ (b : Bool). ways pool t * bit (not b)) e ∙ mul-zero (ways pool t)) all)
      ∙ sum_none naturals (tallies (length pool) d)

  hands_every : Every (λ h. test (rack_of (length pool) h) ≡ true) (hands pool d)
  hands_every = every_member (hands pool d) (λ h m. go (test (rack_of (length pool) h)) (omega (arith, sum_member (λ h. fails (rack_of (length pool) h)) m, none_fail)))
    where
      go : (b : Bool) → bit (not b) ≤ 0 → b ≡ true
      go true l = refl
      go false l = absurd (let k : 1 ≤ 0 = l in omega arith)

-- a hand's rack has as many tiles as the hand
rack_tiles : (pool : List ℕ) (d : ℕ) → Every (λ h. total (rack_of (length pool) h) ≡ d) (hands pool d)
rack_tiles pool d =
    every_weaken (λ h e. eqb-true (total (rack_of (length pool) h)) d e)
    (hands_every pool d (λ t. eqb (total t) d) (every_weaken (λ t h. eq-eqb (total t) d h.1) (tallies_every (length pool) d)))

module _ (n r i d : ℕ) (pool : List ℕ) (letters : length pool ≡ n) where
  pub draws_full : Fills n r i d → Every (λ h. Fits n r (rack_after n r i h)) (hands pool d)
  unfolding rack_after
  draws_full f = every_weaken (λ h e. one h (rw letters at e)) (rack_tiles pool d)
    where
      inside : i < length (lattice n r)
      inside = omega (arith, f.below, length_lattice n r)

      one : (h : List Tile) → total (rack_of n h) ≡ d → Fits n r (plus (tally_at n r i) (rack_of n h))
      one h e =
          let l : length (tally_at n r i) ≡ n = (at_fits n r i inside).letters in
          let same : length (tally_at n r i) ≡ length (rack_of n h) = l ∙ sym (length_rack 0 n h) in
          record { letters = length_plus (tally_at n r i) (rack_of n h) same ∙ l; tiles = omega (arith, total_plus (tally_at n r i) (rack_of n h) same, f.tiles) }

  pub draw_sum_ways : (full : List ℤ) → draw_sum n r full pool i d ≡ sum_over_ℤ (tallies n d) (λ t. pos (ways pool t) *ℤ at_ℤ full (rank_of n (plus (tally_at n r i) t)))
  unfolding draw_sum best_after rack_after
  draw_sum_ways full = rw letters at (sum_hands-ℤ pool d (λ t. at_ℤ full (rank_of n (plus (tally_at n r i) t))))

pub draw_count_ways : (pool : List ℕ) (d : ℕ) → draw_count pool d ≡ binomial (total pool) d
unfolding draw_count
draw_count_ways pool d = hands_count pool d

-- The examples of draws in docs/SCOPE.md, read off the definitions.
use Rattle.std.specs.Prelude.{◌≡◌, refl, true, ℕ, ◌+◌, ◌*◌, ◌^◌, ◌≤◌, max, ℤ, pos, nat_abs, ◌*ℤ◌, replicate}
use Rattle.std.proofs.Math.Path.{ap}
use Rattle.std.proofs.Common.{ap₂, ◌∙◌, arith, lit≤}
use mathlib.Core.List.{List, [], ◌∷◌, ◌++◌}
use Rattle.laws.specs.Integer.{at_ℤ}
use Rattle.laws.specs.Lists.{upto, concat_map}
use Rattle.laws.specs.Sums.{Additive, integers, sum_in, plus_none}
use Rattle.whole.specs.Mean.{mean}
use Rattle.binomials.specs.Binomial.{binomial, row, below, by_row}
use Rattle.lattice.specs.Tally.{total, tallies, lattice, tally_at, start, within, rank_of, plus}
use Rattle.lattice.specs.Answers.{served}
use Rattle.lattice.specs.Leaves.{AddTable}
use Rattle.hands.specs.Hands.{hands, ways, hand_count, hand_sum, hands_count}
use Rattle.hands.proofs.Hands.{sum_hands}
use Rattle.draws.specs.Draws.{best_after, rack_after, draw_count, draw_sum, draw_mean, draw_most, maxima, Lengths, Fills, Limit, DrawNumber}
use Rattle.draws.specs.Draws.DrawNumber.{limit, accepted}

-- ---- two letters, racks of two, the bests of the full racks 10, 30 and 8
abbrev pub bests : List ℤ
bests = pos 0 ∷ pos 0 ∷ pos 0 ∷ pos 10 ∷ pos 30 ∷ pos 8 ∷ []

-- a rack's best, by its rank
abbrev pub best : List ℕ → ℤ
best rack = at_ℤ bests (rank_of 2 rack)

-- keeping (0,1), which is rank 1, and drawing one tile from (1,1): 40 over 2, so 20. The hands of two tiles from (1,2) that hold (0,1)
-- are something else: 70 over 3, so 23
pub record Keeping : Type 0 where
  pub leave : tally_at 2 2 1 ≡ 0 ∷ 1 ∷ []
  pub draws : draw_count (1 ∷ 1 ∷ []) 1 ≡ 2
  pub sum : draw_sum 2 2 bests (1 ∷ 1 ∷ []) 1 1 ≡ pos 40
  pub mean_is : draw_mean 2 2 bests (1 ∷ 1 ∷ []) 1 1 ≡ pos 20
  pub hands_mean : mean (hand_sum (1 ∷ 2 ∷ []) 2 best (0 ∷ 1 ∷ [])) (hand_count (1 ∷ 2 ∷ []) 2 (0 ∷ 1 ∷ [])) ≡ pos 23
  -- a draw of no tile: the rack's own best
  pub full : draw_mean 2 2 bests (1 ∷ 1 ∷ []) 4 0 ≡ pos 30
  -- more tiles than the pool has
  pub none : draw_count (1 ∷ 0 ∷ []) 2 ≡ 0

pub keeping : Keeping
unfolding draw_count draw_sum best_after rack_after upto concat_map lattice tallies total start within rank_of plus binomial
keeping = record { leave = refl; draws = refl; sum = refl; mean_is = refl; hands_mean = refl; full = refl; none = refl }

-- ---- one letter, racks of 15, all drawn from a pool of 64

-- the best of the full rack, which is the last multiset
abbrev pub last_best : ℤ → List ℤ
last_best b = replicate 15 (pos 0) ++ (b ∷ [])

empty_leave : tally_at 1 15 0 ≡ 0 ∷ []
unfolding lattice tallies concat_map upto
empty_leave = refl

one_rack : tallies 1 15 ≡ (15 ∷ []) ∷ []
unfolding tallies concat_map upto
one_rack = refl

its_rank : rank_of 1 (15 ∷ []) ≡ 15
unfolding rank_of start within total binomial
its_rank = refl

weight : binomial 64 15 ≡ 159518999862720
unfolding row below
weight = by_row 64 15

-- every draw makes that rack
module _ (𝓜 : Additive) (f : ℤ → 𝓜.Carrier) (b : ℤ) where
  each_draw : sum_in 𝓜 (hands (64 ∷ []) 15) (λ h. f (best_after 1 15 (last_best b) 0 h)) ≡ 𝓜.times (159518999862720 * 1) (f b)
  unfolding best_after rack_after plus
  each_draw =
      sum_hands 𝓜 (64 ∷ []) 15 (λ t. f (at_ℤ (last_best b) (rank_of 1 (plus (tally_at 1 15 0) t))))
      ∙ ap (λ (l : List (List ℕ)). sum_in 𝓜 l (λ t. 𝓜.times (ways (64 ∷ []) t) (f (at_ℤ (last_best b) (rank_of 1 (plus (tally_at 1 15 0) t)))))) one_rack
      ∙ plus_none 𝓜 _
      ∙ ap (λ (w : ℕ). 𝓜.times (w * 1) (f (at_ℤ (last_best b) (rank_of 1 (plus (tally_at 1 15 0) (15 ∷ [])))))) weight
      ∙ ap (λ (l : List ℕ). 𝓜.times (159518999862720 * 1) (f (at_ℤ (last_best b) (rank_of 1 (plus l (15 ∷ [])))))) empty_leave
      ∙ ap (λ (k : ℕ). 𝓜.times (159518999862720 * 1) (f (at_ℤ (last_best b) k))) its_rank

sum_of : (b : ℤ) → draw_sum 1 15 (last_best b) (64 ∷ []) 0 15 ≡ pos 159518999862720 *ℤ b
unfolding draw_sum
sum_of b = each_draw integers (λ z. z) b

most_of : (b : ℤ) → draw_most 1 15 (last_best b) (64 ∷ []) 0 15 ≡ max 16 (nat_abs b)
unfolding draw_most
most_of b = ap (max 16) (each_draw maxima nat_abs b)

count_of : draw_count (64 ∷ []) 15 ≡ 159518999862720
unfolding draw_count total
count_of = hands_count (64 ∷ []) 15 ∙ weight

limit_of : (b : ℤ) → Limit 1 15 (last_best b) (64 ∷ []) 0 15 → 159518999862720 * max 16 (nat_abs b) ≤ 2 ^ 53
unfolding total
limit_of b l = rw (weight, most_of b) at l.within

of_limit : (b : ℤ) → 159518999862720 * max 16 (nat_abs b) ≤ 2 ^ 53 → Limit 1 15 (last_best b) (64 ∷ []) 0 15
unfolding total
of_limit b h = record { within = rw (weight, most_of b) h }

-- a best of 56 answers 56; 57 is refused with 9
pub record Fifteen (add : List ℕ) : Type 0 where
  pub accepts : DrawNumber 1 15 add (last_best (pos 56)) (64 ∷ []) 0 15 0
  pub answers : draw_mean 1 15 (last_best (pos 56)) (64 ∷ []) 0 15 ≡ pos 56
  pub refuses : DrawNumber 1 15 add (last_best (pos 57)) (64 ∷ []) 0 15 9

sizes_served : served 1 15 ≡ true
unfolding served binomial
sizes_served = refl

lengths_fit : (add : List ℕ) (b : ℤ) → AddTable 1 15 add → Lengths 1 15 add (last_best b) (64 ∷ [])
unfolding binomial
lengths_fit add b right = record { in_add = right.rows; in_full = refl; in_pool = refl }

leave_fills : Fills 1 15 0 15
unfolding binomial total
leave_fills = record { below = lit≤ tt; tiles = ap (λ (t : List ℕ). total t + 15) empty_leave }

pub fifteen : (add : List ℕ) → AddTable 1 15 add → Fifteen add
fifteen add right = record {
  accepts = accepted sizes_served (lengths_fit add (pos 56) right) leave_fills right (of_limit (pos 56) (lit≤ tt));
  answers = ap₂ mean (sum_of (pos 56)) count_of;
  refuses = limit sizes_served (lengths_fit add (pos 57) right) leave_fills right (λ l. absurd (omega (arith, limit_of (pos 57) l)));
}

-- The claim is proved: whatever road takes a board, each leave has the sum of the bests of the hands that hold it, and their number. Assumes nothing.
use Rattle.std.specs.Prelude.{◌≡◌, refl, cond, List, ℕ, zero, suc, ◌^◌, ◌≤◌, ◌<◌, T, Float, ℤ, pos, nat_abs, ◌*ℤ◌, length, get_or}
use Rattle.std.proofs.Common.{sym, ap, ◌∙◌, subst, le_trans, le_of_eq, mul-one, mul-le-mul_left, arith}
use Rattle.std.specs.Float.{nan}
use Rattle.std.proofs.Math.IntN.{zero-*ℤ}
use Rattle.laws.specs.Every.{every_weaken}
use Rattle.laws.specs.Sums.{integers, sum_cong, sum_cong_on}
use Rattle.whole.specs.Whole.{whole, Small}
use Rattle.whole.proofs.Quotient.{quotient_cut}
use Rattle.binomials.specs.Binomial.{binomial}
use Rattle.lattice.specs.Tally.{total, rank_of}
use Rattle.lattice.specs.Tallies.{Fits}
use Rattle.hands.specs.Hands.{rack_of, ways, holds, holding, hand_sum, tallies_every}
use Rattle.hands.proofs.Hands.{hand_sum_cond, ways_drawable, hand_count_le, hand_sum_le}
use Rattle.search.specs.Split.{best_split}
use Rattle.demand.specs.Demand.{Board, Road, Premises, Called, sum_of, count_of, Right, Demand}
use Rattle.demand.proofs.EachOnce.{each_once}
use Rattle.demand.proofs.HandBest.{hand_best_lem}
use Rattle.demand.specs.Gives.{Gives}
use Rattle.demand.proofs.Gives.{road_gives}

-- two bests that agree at each full rack that can be drawn have the same sums: the others weigh nothing
sums_same : (pool : List ℕ) (r : ℕ) (f g : List ℕ → ℤ) → ((R : List ℕ) → Fits (length pool) r R → T (holds pool R) → f R ≡ g R) → (m : List ℕ) → hand_sum pool r f m ≡ hand_sum pool r g m
sums_same pool r f g same m =
    hand_sum_cond pool r f m
    ∙ sum_cong_on integers (every_weaken (λ t h. ap (λ (z : ℤ). cond (holds t m) z (pos 0)) (one t h.0 h.1 (ways pool t) refl)) (tallies_every (length pool) r))
    ∙ sym (hand_sum_cond pool r g m)
  where
    one : (t : List ℕ) → length t ≡ length pool → total t ≡ r → (w : ℕ) → ways pool t ≡ w → pos w *ℤ f t ≡ pos w *ℤ g t
    one t l s zero e = zero-*ℤ (f t) ∙ sym (zero-*ℤ (g t))
    one t l s (suc w) e = ap (λ (z : ℤ). pos (suc w) *ℤ z) (same t (record { letters = l; tiles = s }) (ways_drawable pool t l (omega arith)))

module _ (b : Board) {num den : List Float} (s : Gives b num den) (m : List ℕ) (letters : length m ≡ b.n) (tiles : total m < b.r) where
  -- the sum of the racks' bests is the sum of the hands' bests
  same : hand_sum b.pool b.r s.best m ≡ sum_of b m
  same =
      sums_same b.pool b.r s.best (best_split b.sheet b.leave b.n) (λ R f d. s.is_split R (record { letters = f.letters ∙ s.letters; tiles = f.tiles }) d) m
      ∙ sum_cong integers (holding b.pool b.r m) (λ x. ap (λ (k : ℕ). best_split b.sheet b.leave b.n (rack_of k x)) s.letters ∙ sym (hand_best_lem b x))

  sum_is : get_or num (rank_of b.n m) nan ≡ whole (sum_of b m)
  sum_is = s.sum m letters tiles ∙ ap whole same

  few : count_of b m ≤ 2 ^ 53
  few = le_trans (hand_count_le b.pool b.r m) (le_trans (le_of_eq (sym (mul-one (binomial (total b.pool) b.r)))) (le_trans (mul-le-mul_left (binomial (total b.pool) b.r) s.some) s.limit))

  small : Small (sum_of b m)
  small =
      subst (λ (z : ℤ). nat_abs z ≤ 2 ^ 53) same
      (le_trans (hand_sum_le b.pool b.r s.best s.most (λ R e q w. s.within R (record { letters = e ∙ s.letters; tiles = q }) (ways_drawable b.pool R e w)) m) s.limit)

  gives_right : Right b m (get_or num (rank_of b.n m) nan) (get_or den (rank_of b.n m) nan)
  gives_right = record {
    hands = each_once b.pool b.r m;
    sum = sum_is;
    count = s.count m letters tiles;
    quotient = λ k. rw (sum_is, s.count m letters tiles) (quotient_cut (sum_of b m) (count_of b m) k small few);
  }

-- THE THEOREM
pub demand : Demand
demand b road p num den num' den' c m l t = gives_right b (road_gives b road p num den num' den' c) m l t

-- so any two roads leave the same bits at each leave
pub roads_agree : (b : Board) (road other : Road) → Premises b road → Premises b other
    → (num den num' den' : List Float) → Called b road num den 0 num' den'
    → (num₁ den₁ num₂ den₂ : List Float) → Called b other num₁ den₁ 0 num₂ den₂
    → (m : List ℕ) → length m ≡ b.n → total m < b.r
    → (get_or num' (rank_of b.n m) nan ≡ get_or num₂ (rank_of b.n m) nan) × (get_or den' (rank_of b.n m) nan ≡ get_or den₂ (rank_of b.n m) nan)
roads_agree b road other p q num den num' den' c num₁ den₁ num₂ den₂ d m l t =
    let x = demand b road p num den num' den' c m l t in
    let y = demand b other q num₁ den₁ num₂ den₂ d m l t in
    (x.sum ∙ sym y.sum, x.count ∙ sym y.count)

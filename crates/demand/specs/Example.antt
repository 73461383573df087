-- The example board of docs/SCOPE.md, "The listing": the table sums take it, and leave at each leave the sum and the count that its listing prints. Assumes nothing.
use Rattle.std.specs.Prelude.{◌≡◌, refl, List, [], ◌∷◌, ℕ, zero, suc, ℤ, pos, negsuc, T, Float, get_or, ◌≤ℤ◌}
use Rattle.std.specs.Float.{nan}
use Rattle.std.proofs.Common.{arith}
use Rattle.laws.specs.Every.{Every, every_nil, every_cons, every_at}
use Rattle.laws.specs.Integer.{at_ℤ, max_ℤ}
use Rattle.laws.specs.Lists.{upto, concat_map}
use Rattle.whole.specs.Whole.{whole}
use Rattle.binomials.specs.Binomial.{binomial}
use Rattle.lattice.specs.Answers.{served}
use Rattle.lattice.specs.Tally.{total, tallies, lattice, start, within, rank_of, minus, parts}
use Rattle.lattice.specs.Tallies.{tallies_all}
use Rattle.lattice.specs.Rank.{lattice_all}
use Rattle.hands.specs.Hands.{holds, hand_sum, hand_count}
use Rattle.search.specs.Split.{worth, best_from, best_of, best_split}
use Rattle.sums.specs.Weight.{largest, Clear}
use Rattle.table_sums.specs.Table as Ts
use Rattle.table_sums.specs.Table.{best_at}
use Rattle.demand.specs.Demand.{Board, table, Premises, Called}

-- n 2, r 2, pool 1 2, sheet 0 2 1 10 30 5, leave 0 4 7 1 3 -2
abbrev pub example : Board
example = record {
  n = 2;
  r = 2;
  pool = 1 ∷ 2 ∷ [];
  sheet = pos 0 ∷ pos 2 ∷ pos 1 ∷ pos 10 ∷ pos 30 ∷ pos 5 ∷ [];
  leave = pos 0 ∷ pos 4 ∷ pos 7 ∷ pos 1 ∷ pos 3 ∷ negsuc 1 ∷ [];
}

-- its bests: those of the full racks (0,2), (1,1) and (2,0), of which the last cannot be drawn
abbrev pub bests : List ℤ
bests = pos 0 ∷ pos 0 ∷ pos 0 ∷ pos 10 ∷ pos 30 ∷ pos 8 ∷ []

-- six sums that are +0.0
abbrev pub clear : List Float
clear = whole (pos 0) ∷ whole (pos 0) ∷ whole (pos 0) ∷ whole (pos 0) ∷ whole (pos 0) ∷ whole (pos 0) ∷ []

-- what the call leaves, by rank
abbrev pub sums : List Float
sums = whole (pos 70) ∷ whole (pos 70) ∷ whole (pos 60) ∷ whole (pos 10) ∷ whole (pos 60) ∷ whole (pos 0) ∷ []

abbrev pub counts : List Float
counts = whole (pos 3) ∷ whole (pos 3) ∷ whole (pos 2) ∷ whole (pos 1) ∷ whole (pos 2) ∷ whole (pos 0) ∷ []

true_bests : Every (λ (R : List ℕ). T (holds example.pool R) → best_at 2 bests R ≡ best_split example.sheet example.leave 2 R) (tallies 2 2)
unfolding tallies upto concat_map rank_of start within total binomial best_split best_of best_from worth parts minus max_ℤ
true_bests = every_cons (λ h. refl) (every_cons (λ h. refl) (every_cons (λ h. refl) every_nil))

six : (P : ℤ → Type 0) (a b c d e f : ℤ) → P a → P b → P c → P d → P e → P f → P (pos 0) → (i : ℕ) → P (at_ℤ (a ∷ b ∷ c ∷ d ∷ e ∷ f ∷ []) i)
six P a b c d e f p q r s t u z zero = p
six P a b c d e f p q r s t u z (suc zero) = q
six P a b c d e f p q r s t u z (suc (suc zero)) = r
six P a b c d e f p q r s t u z (suc (suc (suc zero))) = s
six P a b c d e f p q r s t u z (suc (suc (suc (suc zero)))) = t
six P a b c d e f p q r s t u z (suc (suc (suc (suc (suc zero))))) = u
six P a b c d e f p q r s t u z (suc (suc (suc (suc (suc (suc i)))))) = z

example_premises : Premises example (table bests)
unfolding rank_of start within total binomial
example_premises = record {
  nonnegative = six (λ (x : ℤ). pos 0 ≤ℤ x) _ _ _ _ _ _ (record { le = tt }) (record { le = tt }) (record { le = tt }) (record { le = tt }) (record { le = tt }) (record { le = tt }) (record { le = tt });
  no_tiles = refl;
  given = λ R f d. every_at true_bests (tallies_all 2 2 R f) d;
}

sums_are : Every (λ (m : List ℕ). get_or sums (rank_of 2 m) nan ≡ whole (hand_sum example.pool 2 (best_at 2 bests) m)) (lattice 2 2)
unfolding lattice tallies upto concat_map rank_of start within total binomial
sums_are = every_cons refl (every_cons refl (every_cons refl (every_cons refl (every_cons refl (every_cons refl every_nil)))))

counts_are : Every (λ (m : List ℕ). get_or counts (rank_of 2 m) nan ≡ whole (pos (hand_count example.pool 2 m))) (lattice 2 2)
unfolding lattice tallies upto concat_map rank_of start within total binomial
counts_are = every_cons refl (every_cons refl (every_cons refl (every_cons refl (every_cons refl (every_cons refl every_nil)))))

clear_is : Clear clear
clear_is zero h = refl
clear_is (suc zero) h = refl
clear_is (suc (suc zero)) h = refl
clear_is (suc (suc (suc zero))) h = refl
clear_is (suc (suc (suc (suc zero)))) h = refl
clear_is (suc (suc (suc (suc (suc zero))))) h = refl
clear_is (suc (suc (suc (suc (suc (suc i)))))) h = absurd (omega arith)

example_called : Called example (table bests) clear clear 0 sums counts
unfolding served binomial total largest tallies rank_of start within upto concat_map
example_called = record {
  answered = Ts.accepted refl (record { bests = refl; letters = refl; nums = refl; dens = refl }) (clear_is, clear_is) (record { within = omega arith });
  untouched = λ f. absurd (f refl);
  filled = λ _. record { nums = refl; dens = refl; sum = λ m l. every_at sums_are (lattice_all 2 2 m l); count = λ m l. every_at counts_are (lattice_all 2 2 m l) };
}

-- so the table sums take it, and leave 3 70, 3 70 and 2 60 at its leaves, as the listing says
pub record IsExample : Type 0 where
  pub premises : Premises example (table bests)
  pub called : Called example (table bests) clear clear 0 sums counts

pub is_example : IsExample
is_example = record { premises = example_premises; called = example_called }

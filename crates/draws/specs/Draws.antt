-- Draws after keeping a leave (docs/SCOPE.md, "Draws"): what a call answers, for every input. The pool excludes the leave; a draw is a hand
-- of the pool. Assumes nothing.
use Rattle.std.specs.Prelude.{◌≡◌, refl, true, false, List, ℕ, zero, suc, ◌+◌, ◌*◌, ◌^◌, ◌≤◌, ◌<◌, max, ℤ, pos, nat_abs, length, Option, Some, None, Result, Ok, Err}
use Rattle.std.proofs.Math.Nat.{zero-max, max_comm}
use Rattle.std.proofs.Common.{arith}
use Rattle.std.specs.Int.Signed.{quot_z}
use Rattle.laws.specs.Integer.{at_ℤ}
use Rattle.laws.specs.Sums.{Additive, sum_in, sum_over_ℤ}
use Rattle.whole.specs.Mean.{unplayable, mean}
use Rattle.binomials.specs.Binomial.{binomial}
use Rattle.lattice.specs.Tally.{total, tally_at, start, rank_of, plus}
use Rattle.lattice.specs.Answers.{served}
use Rattle.lattice.specs.Leaves.{AddTable}
use Rattle.hands.specs.Hands.{Tile, hands, rack_of}
use Rattle.refusal.specs.Refusal.{number_of}
use Rattle.refusal.specs.declared.Refusal.{Refusal}

-- ---- the draws

-- the rack that a draw makes: the tally of the leave at rank i, and that of the drawn tiles' letters
unfoldable pub rack_after : ℕ → ℕ → ℕ → List Tile → List ℕ
rack_after n r i draw = plus (tally_at n r i) (rack_of n draw)

-- its best
unfoldable pub best_after : ℕ → ℕ → List ℤ → ℕ → List Tile → ℤ
best_after n r full i draw = at_ℤ full (rank_of n (rack_after n r i draw))

-- the number of draws of d tiles, and the sum of their bests
unfoldable pub draw_count : List ℕ → ℕ → ℕ
draw_count pool d = length (hands pool d)

unfoldable pub draw_sum : ℕ → ℕ → List ℤ → List ℕ → ℕ → ℕ → ℤ
draw_sum n r full pool i d = sum_over_ℤ (hands pool d) (best_after n r full i)

-- the mean over draws, cut toward zero; no draw gives UNPLAYABLE
abbrev pub draw_mean : ℕ → ℕ → List ℤ → List ℕ → ℕ → ℕ → ℤ
draw_mean n r full pool i d = mean (draw_sum n r full pool i d) (draw_count pool d)

-- ---- the weight limit

-- the largest of a number that is there so many times: itself, or 0 where it is not there at all
abbrev pub if_any : ℕ → ℕ → ℕ
if_any zero a = 0
if_any (suc k) a = a

pub max_assoc : (a b c : ℕ) → max (max a b) c ≡ max a (max b c)
max_assoc a b c = omega arith

pub if_any_suc : (k a : ℕ) → a ≡ max (if_any k a) a
if_any_suc zero a = omega arith
if_any_suc (suc k) a = omega arith

-- sums in which the larger of two numbers takes the place of their sum
abbrev pub maxima : Additive
maxima = record {
  Carrier = ℕ;
  none = 0;
  plus = max;
  times = if_any;
  none_plus = zero-max;
  plus_comm = max_comm;
  plus_assoc = max_assoc;
  zero_times = λ a. refl;
  suc_times = if_any_suc;
}

-- the largest of f over a list, 0 where it is empty
abbrev pub largest : {A : Type 0} → List A → (A → ℕ) → ℕ
largest xs f = sum_in maxima xs f

-- M: the largest absolute best over the full racks that can be drawn, and at least 16
unfoldable pub draw_most : ℕ → ℕ → List ℤ → List ℕ → ℕ → ℕ → ℕ
draw_most n r full pool i d = max 16 (largest (hands pool d) (λ h. nat_abs (best_after n r full i h)))

-- ---- what each refusal is about

-- 2: the lengths of the slices
pub record Lengths (n r : ℕ) (add : List ℕ) (full : List ℤ) (pool : List ℕ) : Type 0 where
  pub in_add : length add ≡ start n r * n
  pub in_full : length full ≡ binomial (n + r) n
  pub in_pool : length pool ≡ n

-- 4: there is a multiset at the rank, and with so many tiles drawn it is a full rack
pub record Fills (n r i d : ℕ) : Type 0 where
  pub below : i < binomial (n + r) n
  pub tiles : total (tally_at n r i) + d ≡ r

-- 9: W times M
pub record Limit (n r : ℕ) (full : List ℤ) (pool : List ℕ) (i d : ℕ) : Type 0 where
  pub within : binomial (total pool) d * draw_most n r full pool i d ≤ 2 ^ 53

-- the lowest number that applies, 0 where the call is accepted
pub data DrawNumber (n r : ℕ) (add : List ℕ) (full : List ℤ) (pool : List ℕ) (i d : ℕ) : ℕ → Type 0 where
  sizes : served n r ≡ false → DrawNumber n r add full pool i d 1
  lengths : served n r ≡ true → (Lengths n r add full pool → ⊥) → DrawNumber n r add full pool i d 2
  place : served n r ≡ true → Lengths n r add full pool → (Fills n r i d → ⊥) → DrawNumber n r add full pool i d 4
  rule : served n r ≡ true → Lengths n r add full pool → Fills n r i d → (AddTable n r add → ⊥) → DrawNumber n r add full pool i d 6
  limit : served n r ≡ true → Lengths n r add full pool → Fills n r i d → AddTable n r add → (Limit n r full pool i d → ⊥) → DrawNumber n r add full pool i d 9
  accepted : served n r ≡ true → Lengths n r add full pool → Fills n r i d → AddTable n r add → Limit n r full pool i d → DrawNumber n r add full pool i d 0

-- ---- the answer

-- the mean, none where there is no draw, or why the call is refused
abbrev pub Drawn : Type 0
Drawn = Result (Option ℤ) Refusal

-- what the plain layer gives
abbrev pub value : Drawn → ℤ
value (Ok (Some v)) = v
value (Ok None) = unplayable
value (Err refusal) = unplayable

-- v where no refusal applies, and UNPLAYABLE otherwise
abbrev pub given : ℕ → ℤ → ℤ
given zero v = v
given (suc k) v = unplayable

-- the answer to a sum over so many draws
abbrev pub drawn : ℤ → ℕ → Drawn
drawn sum zero = Ok None
drawn sum (suc k) = Ok (Some (quot_z sum (pos (suc k))))

-- what a call answers
pub record Valued (n r : ℕ) (add : List ℕ) (full : List ℤ) (pool : List ℕ) (i d : ℕ) (b : Drawn) : Type 0 where
  pub numbered : DrawNumber n r add full pool i d (number_of b)
  pub valued : value b ≡ given (number_of b) (draw_mean n r full pool i d)
  pub is : number_of b ≡ 0 → b ≡ drawn (draw_sum n r full pool i d) (draw_count pool d)

-- what the call has judged before it walks over the draws
pub record Passed (n r : ℕ) (add : List ℕ) (full : List ℤ) (pool : List ℕ) (i d : ℕ) : Type 0 where
  pub sizes : served n r ≡ true
  pub lengths : Lengths n r add full pool
  pub fills : Fills n r i d
  pub table : AddTable n r add

-- Laws that the proofs of the judges cite. Assumes nothing.
use Prim.Native.Nat.{ℕ, ◌+◌, ◌-◌, ◌*◌, ◌^◌, ◌≤◌, ◌<◌, max}
use mathlib.Core.Bool.{true}
use mathlib.Core.List.{List}
use mathlib.Core.Path.{◌≡◌, refl, sym, ap₂, ◌∙◌, subst}
use Rattle.std.specs.Prelude.{All}
use Rattle.std.proofs.lemmas.List.Elements.{All-get_or, All-from_get_or}
use lib.IntN.{ℤ, pos}
use lib.ListN.{length, get_or-eq_default}
use lib.Signed.{◌≤ℤ◌}
use native.Mathlib.Decide.{dec_lt}
use native.Mathlib.Nat.{le_trans}
use native.Mathlib.Omega.{arith}
use Rattle.laws.specs.Integer.{at_ℤ, ≤ℤ-antisym, ≡-≤ℤ}
use Rattle.binomials.specs.Binomial.{binomial, positive}
use Rattle.lattice.specs.Tally.{total, tallies, lattice, start}
use Rattle.lattice.specs.Lattice.{length_lattice, length_lattice_start, start_next}
use Rattle.lattice.specs.declared.sizes.Sizes.{Sizes}
use Rattle.search.specs.Split.{Bounded}
use Rattle.sums.specs.Weight.{largest}
use Rattle.sums.specs.Largest.{largest_bounds, largest_least}
use Rattle.fused.specs.Answer.{Input, Lent, WordSheet, Lengths, Entries, most, Limit, FusedNumber}
use Rattle.lattice.specs.Answers.{served}
use Rattle.lattice.specs.RankTables.{RanksNumber}
use Rattle.lattice.specs.RankTables.RanksNumber.{accepted, lengths, rule}
use Rattle.lattice.specs.TableCalls.{Tables}
use Rattle.refusal.specs.Refusal.{code_of, code_some}
use Rattle.refusal.specs.declared.Refusal.{Refusal}

-- the lattice's own length
pub whole : (s : Sizes) → s.len ≡ length (lattice s.n s.r)
whole s = s.counts ∙ sym (length_lattice s.n s.r)

-- the full racks are what the leaves leave
pub racks_left : (n r : ℕ) {lo size : ℕ} → lo ≡ start n r → size ≡ length (lattice n r) → (lo ≤ size) × (size - lo ≡ length (tallies n r))
racks_left n r l s = (omega (arith, length_lattice_start n r, start_next n r), omega (arith, length_lattice_start n r, start_next n r))

pub racks_are : (s : Sizes) → s.len - s.leaves ≡ length (tallies s.n s.r)
racks_are s = (racks_left s.n s.r s.starts (whole s)).1

pub leaves_fit : (s : Sizes) → s.leaves ≤ s.len
leaves_fit s = (racks_left s.n s.r s.starts (whole s)).0

-- there is the multiset of no tiles
pub some_multiset : (s : Sizes) → 0 < s.len
some_multiset s = rw s.counts (positive (s.n + s.r) s.n (omega arith))

-- ---- the sheet of words

pub all_words : (sheet : List ℤ) (i : ℕ) → length sheet ≤ i → 0 < length sheet → at_ℤ sheet 0 ≤ℤ pos 0 → ((k : ℕ) → k < i → pos 0 ≤ℤ at_ℤ sheet k) → WordSheet sheet
all_words sheet i l some first all =
    record {
      nonnegative = λ k. at k (dec_lt k (length sheet));
      no_tiles = ≤ℤ-antisym first (all 0 (omega arith));
    }
  where
    at : (k : ℕ) → Dec (k < length sheet) → pos 0 ≤ℤ at_ℤ sheet k
    at k (yes h) = all k (omega arith)
    at k (no h) = ≡-≤ℤ (sym (get_or-eq_default sheet (pos 0) {n = k} (omega arith)))

pub words_of : (sheet : List ℤ) → 0 < length sheet → at_ℤ sheet 0 ≤ℤ pos 0 → All (λ (z : ℤ). pos 0 ≤ℤ z) sheet → WordSheet sheet
words_of sheet some first all = all_words sheet (length sheet) (omega arith) some first (λ k h. All-get_or (λ (z : ℤ). pos 0 ≤ℤ z) sheet k (pos 0) h all)

pub of_words : (sheet : List ℤ) → WordSheet sheet → (at_ℤ sheet 0 ≤ℤ pos 0) × All (λ (z : ℤ). pos 0 ≤ℤ z) sheet
of_words sheet w = (≡-≤ℤ w.no_tiles, All-from_get_or (λ (z : ℤ). pos 0 ≤ℤ z) sheet (pos 0) (λ i h. w.nonnegative i))

-- ---- entries and limit, by the largest entries of sheet and leave

bounded_by : {m : ℕ} (xs : List ℤ) → m ≡ largest xs → m ≤ 536870911 → Bounded 536870911 xs
unfolding Bounded
bounded_by xs e l j = le_trans (largest_bounds xs j) (omega arith)

module _ (g : Input) {a : ℕ} (p : a ≡ largest g.sheet) where
  pub sheet_beyond : 536870911 < a → Entries g → ⊥
  sheet_beyond h d = omega (arith, largest_least g.sheet 536870911 d.sheet_bound)

  module _ {b : ℕ} (q : b ≡ largest g.leave) where
    pub leave_beyond : 536870911 < b → Entries g → ⊥
    leave_beyond h d = omega (arith, largest_least g.leave 536870911 d.leave_bound)

    pub entries_of : a ≤ 536870911 → b ≤ 536870911 → Entries g
    entries_of h k = record { sheet_bound = bounded_by g.sheet p h; leave_bound = bounded_by g.leave q k }

    most_is : max 16 (a + b) ≡ most g
    most_is = ap₂ (λ (i j : ℕ). max 16 (i + j)) p q

    pub limit_of : binomial (total g.pool) g.r * max 16 (a + b) ≤ 2 ^ 53 → Limit g
    limit_of h = record { within = subst (λ (k : ℕ). binomial (total g.pool) g.r * k ≤ 2 ^ 53) most_is h }

    pub limit_over : (binomial (total g.pool) g.r * max 16 (a + b) ≤ 2 ^ 53 → ⊥) → Limit g → ⊥
    limit_over f l = f (subst (λ (k : ℕ). binomial (total g.pool) g.r * k ≤ 2 ^ 53) (sym most_is) l.within)

-- ---- the tables of ranks

-- the judge of the tables refuses none for its length, where lengths are right
pub ranks_refused : {g : Input} {o : Lent} → served g.n g.r ≡ true → Lengths g o → Entries g → (refusal : Refusal) → RanksNumber g.n g.r g.add g.by_letter (code_of refusal)
    → FusedNumber g o (code_of refusal)
ranks_refused {g} {o} s l e refusal = go (code_some refusal)
  where
    go : {k : ℕ} → (k ≡ 0 → ⊥) → RanksNumber g.n g.r g.add g.by_letter k → FusedNumber g o k
    go some (accepted _ _) = absurd (some refl)
    go some (lengths f) = absurd (f (record { in_add = l.read.in_add; in_letters = l.read.in_by_letter }))
    go some (rule _ f) = FusedNumber.ranks s l e f

-- and the number 0 is that of tables by their rule
pub ranks_taken : {n r k : ℕ} {add letters : List ℕ} → RanksNumber n r add letters k → k ≡ 0 → Tables n r add letters
ranks_taken (accepted _ t) z = t
ranks_taken (lengths _) z = absurd (omega arith)
ranks_taken (rule _ _) z = absurd (omega arith)

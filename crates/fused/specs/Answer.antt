-- What a call of apportion_fused answers, for every input, and what it leaves in each slice. Assumes nothing.
use Rattle.std.specs.Prelude.{ℕ, ◌+◌, ◌-◌, ◌*◌, ◌^◌, ◌≤◌, max, Bool, true, false, cond, not, ◌&&◌, List, ◌⊎◌, ◌≡◌, Float, ℤ, pos, length, get_or, ◌≤ℤ◌}
use Rattle.std.specs.Float.{nan}
use Rattle.std.proofs.Common.{arith}
use Rattle.laws.specs.Integer.{at_ℤ}
use Rattle.whole.specs.Whole.{whole}
use Rattle.lattice.specs.Answers.{served}
use Rattle.binomials.specs.Binomial.{binomial}
use Rattle.lattice.specs.TableCalls.{Tables}
use Rattle.lattice.specs.Tally.{total, tallies, lattice, start, rank_of, parts}
use Rattle.lattice.specs.Tallies.{Fits}
use Rattle.hands.specs.Hands.{ways}
use Rattle.search.specs.Split.{Bounded, best_of, best_split}
use Rattle.maxima.specs.Judge.{SubsetMax}
use Rattle.scatter.specs.Scatter.{scatter_at}
use Rattle.scatter.specs.Every.{IsScatter}
use Rattle.sums.specs.Weight.{largest, Clear}
use Rattle.fused.specs.Splits.{Split}
use Rattle.fused.specs.ZetaSums.{Summed}
use Rattle.fused.specs.declared.mode.Mode.{Mode}

-- what a call reads: the lattice's letters and rack size, the tables of ranks, sheet, leave and leave_max, the pool, and the three flags
pub record Input : Type 0 where
  pub n : ℕ
  pub r : ℕ
  pub add : List ℕ
  pub by_letter : List ℕ
  pub sheet : List ℤ
  pub leave : List ℤ
  pub leave_max : List ℤ
  pub pool : List ℕ
  pub mode : Mode

abbrev pub input : ℕ → ℕ → List ℕ → List ℕ → List ℤ → List ℤ → List ℤ → List ℕ → Mode → Input
input n r add by_letter sheet leave leave_max pool mode = record { n = n; r = r; add = add; by_letter = by_letter; sheet = sheet; leave = leave; leave_max = leave_max; pool = pool; mode = mode }

-- the slices that a call writes
pub record Lent : Type 0 where
  pub num : List Float
  pub den : List Float
  pub deals : List Float
  pub maxsheet : List ℤ

abbrev pub lent : List Float → List Float → List Float → List ℤ → Lent
lent num den deals maxsheet = record { num = num; den = den; deals = deals; maxsheet = maxsheet }

-- ---- the best that a mode takes for a full rack

-- with zeta and null_leave the best is the subset maximum of sheet alone
abbrev pub sheet_alone : Mode → Bool
sheet_alone m = m.zeta && m.null_leave

-- scatter is in force where scatter and zeta are set and null_leave is not
abbrev pub in_force : Mode → Bool
in_force m = (m.scatter && m.zeta) && not m.null_leave

-- the greatest entry of sheet over a multiset's parts
unfoldable pub subset_best : List ℤ → ℕ → List ℕ → ℤ
subset_best sheet n R = best_of (λ P. at_ℤ sheet (rank_of n P)) (parts R)

-- the subset maximum of sheet, or the scatter where that is in force, otherwise the best split
unfoldable pub mode_best : Input → List ℕ → ℤ
mode_best g R =
    cond (sheet_alone g.mode) (subset_best g.sheet g.n R)
    (cond (in_force g.mode) (scatter_at g.sheet g.leave g.pool g.n g.leave_max R) (best_split g.sheet g.leave g.n R))

-- ---- what each refusal is about

-- 2, a slice of wrong length, of those that are read: leave_max counts only where scatter is in force
pub record ReadLengths (g : Input) : Type 0 where
  pub in_add : length g.add ≡ start g.n g.r * g.n
  pub in_by_letter : (length g.by_letter ≡ 0) ⊎ (length g.by_letter ≡ start g.n g.r * g.n)
  pub in_sheet : length g.sheet ≡ length (lattice g.n g.r)
  pub in_leave : length g.leave ≡ length (lattice g.n g.r)
  pub in_leave_max : in_force g.mode ≡ true → length g.leave_max ≡ length (lattice g.n g.r)
  pub in_pool : length g.pool ≡ g.n

-- and of those that are written: num and den for each leave, ways for each full rack, maxsheet for each multiset
pub record LentLengths (n r : ℕ) (o : Lent) : Type 0 where
  pub in_num : length o.num ≡ start n r
  pub in_den : length o.den ≡ start n r
  pub in_deals : length o.deals ≡ length (tallies n r)
  pub in_maxsheet : length o.maxsheet ≡ length (lattice n r)

pub record Lengths (g : Input) (o : Lent) : Type 0 where
  pub read : ReadLengths g
  pub written : LentLengths g.n g.r o

-- 5, an entry of sheet or leave beyond ±536,870,911: the call depends on all of them
pub record Entries (g : Input) : Type 0 where
  pub sheet_bound : Bounded 536870911 g.sheet
  pub leave_bound : Bounded 536870911 g.leave

-- 6, a table of ranks that is not its lattice's
abbrev pub Ranks : Input → Type 0
Ranks g = Tables g.n g.r g.add g.by_letter

-- 7, where scatter is in force: an entry of sheet is negative, the first is not 0, or leave_max is not leave's subset maximum
pub record WordSheet (sheet : List ℤ) : Type 0 where
  pub nonnegative : (i : ℕ) → pos 0 ≤ℤ at_ℤ sheet i
  pub no_tiles : at_ℤ sheet 0 ≡ pos 0

pub record Words (n r : ℕ) (sheet leave leave_max : List ℤ) : Type 0 where
  pub word_sheet : WordSheet sheet
  pub is_max : SubsetMax n r leave leave_max

abbrev pub Scatters : Input → Type 0
Scatters g = in_force g.mode ≡ true → Words g.n g.r g.sheet g.leave g.leave_max

-- 8, num, den or ways is not +0.0 throughout
pub record Cleared (num den deals : List Float) : Type 0 where
  pub clear_num : Clear num
  pub clear_den : Clear den
  pub clear_deals : Clear deals

-- M: the largest size of an entry of sheet plus that of an entry of leave, and at least 16
abbrev pub most : Input → ℕ
most g = max 16 (largest g.sheet + largest g.leave)

-- 9, W × M over 9,007,199,254,740,992, where W is C(tiles in the pool, r)
pub record Limit (g : Input) : Type 0 where
  pub within : binomial (total g.pool) g.r * most g ≤ 2 ^ 53

-- no refusal applies to what is read
pub record Sound (g : Input) : Type 0 where
  pub sizes : served g.n g.r ≡ true
  pub lengths : ReadLengths g
  pub entries : Entries g
  pub ranks : Ranks g
  pub words : Scatters g
  pub limit : Limit g

-- nor to what is written
pub record Accepted (g : Input) (o : Lent) : Type 0 where
  pub sound : Sound g
  pub lengths : LentLengths g.n g.r o
  pub cleared : Cleared o.num o.den o.deals

-- the lowest number that applies is given, 0 where none does
pub data FusedNumber (g : Input) (o : Lent) : ℕ → Type 0 where
  accepted : Accepted g o → FusedNumber g o 0
  sizes : served g.n g.r ≡ false → FusedNumber g o 1
  lengths : served g.n g.r ≡ true → (Lengths g o → ⊥) → FusedNumber g o 2
  entries : served g.n g.r ≡ true → Lengths g o → (Entries g → ⊥) → FusedNumber g o 5
  ranks : served g.n g.r ≡ true → Lengths g o → Entries g → (Ranks g → ⊥) → FusedNumber g o 6
  words : served g.n g.r ≡ true → Lengths g o → Entries g → Ranks g → (Scatters g → ⊥) → FusedNumber g o 7
  cleared : served g.n g.r ≡ true → Lengths g o → Entries g → Ranks g → Scatters g → (Cleared o.num o.den o.deals → ⊥) → FusedNumber g o 8
  limit : served g.n g.r ≡ true → Lengths g o → Entries g → Ranks g → Scatters g → Cleared o.num o.den o.deals → (Limit g → ⊥) → FusedNumber g o 9

-- a number of 0 is that of an accepted call
pub accepted_of : {g : Input} {o : Lent} {k : ℕ} → FusedNumber g o k → k ≡ 0 → Accepted g o
accepted_of (accepted a) e = a
accepted_of (sizes _) e = absurd (omega arith)
accepted_of (lengths _ _) e = absurd (omega arith)
accepted_of (entries _ _ _) e = absurd (omega arith)
accepted_of (ranks _ _ _ _) e = absurd (omega arith)
accepted_of (words _ _ _ _ _) e = absurd (omega arith)
accepted_of (cleared _ _ _ _ _ _) e = absurd (omega arith)
accepted_of (limit _ _ _ _ _ _ _) e = absurd (omega arith)

-- ---- what an accepted call leaves

-- a full rack's ways, the product over the letters of C(unseen, count), an entry for each full rack; 0 where it cannot be drawn
pub record Deals (n r : ℕ) (pool : List ℕ) (table : List Float) : Type 0 where
  pub racks : length table ≡ length (tallies n r)
  pub rack : (R : List ℕ) → Fits n r R → get_or table (rank_of n R - start n r) nan ≡ whole (pos (ways pool R))

-- maxsheet goes from a to b: the subset maximum and the scatter fill it whole, otherwise the best split is written at drawable full racks only
pub record Bests (g : Input) (a b : List ℤ) : Type 0 where
  pub long : length b ≡ length a
  pub alone : sheet_alone g.mode ≡ true → SubsetMax g.n g.r g.sheet b
  pub scattered : in_force g.mode ≡ true → IsScatter g.sheet g.leave g.leave_max g.pool g.r b
  pub split : sheet_alone g.mode ≡ false → in_force g.mode ≡ false → Split g.n g.r g.pool g.sheet g.leave a b

-- each leave's sum of the mode's bests and its count, over the hands that hold it; each full rack's ways; and maxsheet
pub record Filled (g : Input) (o o' : Lent) : Type 0 where
  pub sums : Summed g.n g.r g.pool (mode_best g) o'.num o'.den
  pub drawn : Deals g.n g.r g.pool o'.deals
  pub bests : Bests g o.maxsheet o'.maxsheet

-- the number, and the final contents of num, den, ways and maxsheet: every refusal leaves all lent slices untouched
pub record Fused (g : Input) (o : Lent) (answer : ℕ) (o' : Lent) : Type 0 where
  pub answered : FusedNumber g o answer
  pub untouched : (answer ≡ 0 → ⊥) → o' ≡ o
  pub filled : answer ≡ 0 → Filled g o o'

-- The claim over all boards, roads and leaves: what a board, a road and a leave's sum and count are, when a call has taken a board by a road, and what
-- it then leaves. Sentences of docs/SCOPE.md, "Sums over hands", stand in quotes. Assumes nothing.
use Rattle.std.specs.Prelude.{◌≡◌, true, List, [], ◌∷◌, ℕ, ◌<◌, T, Float, ℤ, pos, ◌+ℤ◌, length, get_or, ◌≤ℤ◌}
use Rattle.std.specs.Float.{nan, binary64}
use Rattle.std.specs.Float.Ieee.{div, to_signed}
use Rattle.std.specs.Int.Signed.{quot_z}
use Rattle.laws.specs.Integer.{at_ℤ, max_ℤ}
use Rattle.laws.specs.Sums.{sum_over_ℤ}
use Rattle.whole.specs.Whole.{whole}
use Rattle.lattice.specs.Tally.{total, rank_of}
use Rattle.lattice.specs.Tallies.{Fits}
use Rattle.hands.specs.Hands.{Tile, rack_of, holds, holding, hand_count}
use Rattle.hands.specs.Sets.{EachOnce}
use Rattle.hands.specs.Partings.{Parting, partings}
use Rattle.search.specs.Split.{best_split}
use Rattle.maxima.specs.Judge.{SubsetMax}
use Rattle.fused.specs.Answer.{input, lent, in_force, Fused}
use Rattle.fused.specs.declared.mode.Mode.{Mode}
use Rattle.table_sums.specs.Table.{best_at, Apportioned}

-- a board is "a lattice, a pool, a sheet, a leave table"
pub record Board : Type 0 where
  pub n : ℕ
  pub r : ℕ
  pub pool : List ℕ
  pub sheet : List ℤ
  pub leave : List ℤ

-- the roads: the table sums over a best table, or the fused sums with their three flags and leave_max
pub data Road : Type 0 where
  table : (best : List ℤ) → Road
  fused : (mode : Mode) (leave_max : List ℤ) → Road

-- ---- a leave's count and sum

-- the greatest of v and of f over a list
unfoldable pub greatest_from : {A : Type 0} → ℤ → (A → ℤ) → List A → ℤ
greatest_from v f [] = v
greatest_from v f (x ∷ xs) = greatest_from (max_ℤ v (f x)) f xs

-- the greatest of f over a list; 0 where the list is empty, which `partings` never is
unfoldable pub greatest : {A : Type 0} → (A → ℤ) → List A → ℤ
greatest f [] = pos 0
greatest f (x ∷ xs) = greatest_from (f x) f xs

module _ (b : Board) where
  open b use {n, r, pool, sheet, leave}

  -- a parting "is worth the sheet at the rank of the played tally plus the leave table at that of the kept"
  abbrev pub worth : Parting → ℤ
  worth p = at_ℤ sheet (rank_of n (rack_of n p.0)) +ℤ at_ℤ leave (rank_of n (rack_of n p.1))

  -- "The hand's best is the greatest worth"
  unfoldable pub hand_best : List Tile → ℤ
  hand_best h = greatest worth (partings h)

  -- "A leave's count is the number of hands that hold it"
  abbrev pub count_of : List ℕ → ℕ
  count_of m = hand_count pool r m

  -- "its sum the total of their bests"
  abbrev pub sum_of : List ℕ → ℤ
  sum_of m = sum_over_ℤ (holding pool r m) hand_best

  -- ---- the premises

  -- "A table of bests is true if it has the best split at each drawable full rack"
  abbrev pub TrueBest : List ℤ → Type 0
  TrueBest best = (R : List ℕ) → Fits n r R → T (holds pool R) → best_at n best R ≡ best_split sheet leave n R

  -- "leave_max matters only where scatter is in force, and is true if it is leave's subset maximum"; with null_leave no leave is worth anything
  pub record TrueFused (mode : Mode) (leave_max : List ℤ) : Type 0 where
    pub is_max : in_force mode ≡ true → SubsetMax n r leave leave_max
    pub no_leave : mode.null_leave ≡ true → (i : ℕ) → at_ℤ leave i ≡ pos 0

  -- what is true of what the road is given
  abbrev pub RoadPremise : Road → Type 0
  RoadPremise (table best) = TrueBest best
  RoadPremise (fused mode leave_max) = TrueFused mode leave_max

  -- the sheet is nowhere negative and 0 for no tiles, and what the road is given is true
  pub record Premises (road : Road) : Type 0 where
    pub nonnegative : (i : ℕ) → pos 0 ≤ℤ at_ℤ sheet i
    pub no_tiles : at_ℤ sheet 0 ≡ pos 0
    pub given : RoadPremise road

  -- ---- the call

  -- the fused call has taken the board: its contract, with the slices beside num and den
  pub record FusedCall (mode : Mode) (leave_max : List ℤ) (num den : List Float) (answer : ℕ) (num' den' : List Float) : Type 0 where
    pub add : List ℕ
    pub by_letter : List ℕ
    pub deals : List Float
    pub maxsheet : List ℤ
    pub deals' : List Float
    pub maxsheet' : List ℤ
    pub contract : Fused (input n r add by_letter sheet leave leave_max pool mode) (lent num den deals maxsheet) answer (lent num' den' deals' maxsheet')

  -- a call has taken the board by the road: it was lent num and den, gave the answer, and left num' and den'. This is its contract
  abbrev pub Called : Road → List Float → List Float → ℕ → List Float → List Float → Type 0
  Called (table best) num den answer num' den' = Apportioned n r best pool num den answer num' den'
  Called (fused mode leave_max) num den answer num' den' = FusedCall mode leave_max num den answer num' den'

  -- ---- what it leaves at a leave

  -- the sum and the count over the hands that hold the leave, as whole numbers; and their float quotient, cut, is their quotient cut toward zero
  -- and those hands are each set of r distinct unseen tiles whose rack holds the leave, once
  pub record Right (m : List ℕ) (num den : Float) : Type 0 where
    pub hands : EachOnce pool r m (holding pool r m)
    pub sum : num ≡ whole (sum_of m)
    pub count : den ≡ whole (pos (count_of m))
    pub quotient : 0 < count_of m → to_signed 63 (div binary64 num den) ≡ quot_z (sum_of m) (pos (count_of m))

-- each leave of the board has its sum and its count in num and den
abbrev pub EachRight : Board → List Float → List Float → Type 0
EachRight b num den = (m : List ℕ) → length m ≡ b.n → total m < b.r → Right b m (get_or num (rank_of b.n m) nan) (get_or den (rank_of b.n m) nan)

-- "The one claim"
abbrev pub Demand : Type 0
Demand = (b : Board) (road : Road) → Premises b road → (num den num' den' : List Float) → Called b road num den 0 num' den' → EachRight b num' den'

-- ---- for the contracts of the two calls

-- the board of a call's slices
abbrev pub board_of : (n r : ℕ) (pool : List ℕ) (sheet leave : List ℤ) → Board
board_of n r pool sheet leave = record { n = n; r = r; pool = pool; sheet = sheet; leave = leave }

-- what a road leaves where its premises hold
abbrev pub RoadRight : Board → Road → List Float → List Float → Type 0
RoadRight b road num den = Premises b road → EachRight b num den

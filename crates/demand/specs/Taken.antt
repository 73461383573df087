-- The claim is not empty: one board on which every road's premises hold and every road's call is accepted, with what it leaves. One letter, racks of one
-- tile, one tile in the pool; the word of that tile scores 5, and no leave is worth anything. Assumes nothing.
use Rattle.std.specs.Prelude.{◌≡◌, ◌⊎◌, true, List, [], ◌∷◌, ℕ, zero, suc, ◌≤◌, ◌<◌, Float, ℤ, ◌+ℤ◌, length, ◌≤ℤ◌}
use Rattle.std.proofs.Math.Path.{refl}
use Rattle.std.proofs.Common.{sym, ap, ◌∙◌, inr, ⊎_elim, suc-ne-zero}
use Rattle.std.proofs.Math.Logic.{inl}
use mathlib.Core.List.Memᴰ
use native.Mathlib.Omega.{arith}
use Rattle.std.proofs.Math.IntN.{pos, nat_abs}
use Rattle.std.specs.Int.Signed.{≤ℤ_refl}
use Rattle.laws.specs.Every.{every, every_nil, every_cons}
use Rattle.laws.specs.Integer.{at_ℤ, max_ℤ}
use Rattle.laws.specs.Lists.{upto, concat_map}
use Rattle.whole.specs.Whole.{whole}
use Rattle.lattice.specs.Answers.{served}
use Rattle.binomials.specs.Binomial.{binomial}
use Rattle.lattice.specs.Leaves.{AddTable}
use Rattle.lattice.specs.Tally.{total, tallies, lattice, start, within, rank_of, add_tile, minus, parts, total_one}
use Rattle.lattice.specs.Parts.{Within-refl, parts_all}
use Rattle.search.specs.Split.{Bounded, worth, best_from, best_of, best_split}
use Rattle.maxima.specs.Judge.{SubsetMax}
use Rattle.scatter.specs.Scatter.{played, offered, scatter_at}
use Rattle.scatter.specs.Every.{IsScatter}
use Rattle.sums.specs.Weight.{largest, Clear}
use Rattle.fused.specs.Splits.{Split}
use Rattle.fused.specs.Answer as Fu
use Rattle.fused.specs.Answer.{input, lent, mode_best, Sound, Filled}
use Rattle.fused.specs.Modes.{mode_split}
use Rattle.fused.specs.declared.mode.Mode.{Mode}
use Rattle.table_sums.specs.Table as Ts
use Rattle.table_sums.specs.Table.{best_at}
use Rattle.demand.specs.Demand.{Board, Road, table, fused, Premises, Called}

-- the board: one letter, racks of one tile, one tile in the pool
abbrev pub board : Board
board = record { n = 1; r = 1; pool = 1 ∷ []; sheet = pos 0 ∷ pos 5 ∷ []; leave = pos 0 ∷ pos 0 ∷ [] }

-- ---- its multisets: none, and the tile

one_letter : (m : List ℕ) → length m ≡ 1 → (c : ℕ) × (m ≡ c ∷ [])
one_letter [] e = absurd (suc-ne-zero 0 (sym e))
one_letter (c ∷ []) e = (c, refl)
one_letter (c ∷ d ∷ m) e = absurd (let h : suc (suc (length m)) ≡ 1 = e in omega arith)

the_leave : (m : List ℕ) → length m ≡ 1 → total m < 1 → m ≡ 0 ∷ []
the_leave m e h =
    let o = one_letter m e in
    let z : o.0 ≡ 0 = omega (arith, ap total o.1, total_one o.0) in
    o.1 ∙ ap (λ (c : ℕ). c ∷ []) z

the_rack : (m : List ℕ) → length m ≡ 1 → total m ≡ 1 → m ≡ 1 ∷ []
the_rack m e h =
    let o = one_letter m e in
    let z : o.0 ≡ 1 = omega (arith, ap total o.1, total_one o.0) in
    o.1 ∙ ap (λ (c : ℕ). c ∷ []) z

either : (m : List ℕ) → length m ≡ 1 → total m ≤ 1 → (m ≡ 0 ∷ []) ⊎ (m ≡ 1 ∷ [])
either m e h = by (one_letter m e)
  where
    by : (c : ℕ) × (m ≡ c ∷ []) → (m ≡ 0 ∷ []) ⊎ (m ≡ 1 ∷ [])
    by (zero, q) = inl q
    by (suc zero, q) = inr q
    by (suc (suc c), q) = absurd (omega (arith, ap total q, total_one (suc (suc c))))

split_is : best_split board.sheet board.leave 1 (1 ∷ []) ≡ pos 5
unfolding best_split best_of best_from worth parts minus rank_of start within total binomial upto concat_map max_ℤ
split_is = refl

-- an entry of a table of two
two_entries : (P : ℤ → Type 0) (a b : ℤ) → P a → P b → P (pos 0) → (i : ℕ) → P (at_ℤ (a ∷ b ∷ []) i)
two_entries P a b p q z zero = p
two_entries P a b p q z (suc zero) = q
two_entries P a b p q z (suc (suc i)) = z

nonnegative : (i : ℕ) → pos 0 ≤ℤ at_ℤ board.sheet i
nonnegative = two_entries (λ (x : ℤ). pos 0 ≤ℤ x) (pos 0) (pos 5) (≤ℤ_refl (pos 0)) (record { le = tt }) (≤ℤ_refl (pos 0))

-- a clear table
clear_one : Clear (whole (pos 0) ∷ [])
clear_one zero h = refl
clear_one (suc i) h = absurd (omega arith)

clear_two : Clear (whole (pos 0) ∷ whole (pos 0) ∷ [])
clear_two zero h = refl
clear_two (suc zero) h = refl
clear_two (suc (suc i)) h = absurd (omega arith)

served_is : served 1 1 ≡ true
unfolding served binomial
served_is = refl

-- ---- the table road

pub table_premises : Premises board (table (pos 0 ∷ pos 5 ∷ []))
unfolding rank_of start within total binomial
table_premises = record { nonnegative = nonnegative; no_tiles = refl; given = λ R f d. rw (the_rack R f.letters f.tiles) (sym split_is) }

table_filled : Ts.Filled 1 1 (best_at 1 (pos 0 ∷ pos 5 ∷ [])) (1 ∷ []) (whole (pos 5) ∷ whole (pos 5) ∷ []) (whole (pos 1) ∷ whole (pos 1) ∷ [])
unfolding rank_of start within total binomial upto
table_filled = record {
  nums = refl;
  dens = refl;
  sum = λ m l. ⊎_elim (λ e. rw e refl) (λ e. rw e refl) (either m l.letters l.tiles);
  count = λ m l. ⊎_elim (λ e. rw e refl) (λ e. rw e refl) (either m l.letters l.tiles);
}

pub table_taken : Called board (table (pos 0 ∷ pos 5 ∷ [])) (whole (pos 0) ∷ whole (pos 0) ∷ []) (whole (pos 0) ∷ whole (pos 0) ∷ []) 0 (whole (pos 5) ∷ whole (pos 5) ∷ []) (whole (pos 1) ∷ whole (pos 1) ∷ [])
unfolding binomial total largest tallies rank_of start within upto concat_map
table_taken = record {
  answered = Ts.accepted served_is (record { bests = refl; letters = refl; nums = refl; dens = refl }) (clear_two, clear_two) (record { within = omega arith });
  untouched = λ f. absurd (f refl);
  filled = λ _. table_filled;
}

-- ---- the fused roads, in every mode

-- the rank of the tile, from none
add_right : AddTable 1 1 (1 ∷ [])
unfolding rank_of start within total binomial add_tile
add_right = record { rows = refl; entry = λ x t l h k. let z : t ≡ 0 = omega arith in rw (the_leave x l h, z) refl }

-- leave is 0 everywhere, and so is its subset maximum
no_leaves : (i : ℕ) → at_ℤ (pos 0 ∷ pos 0 ∷ []) i ≡ pos 0
no_leaves = two_entries (λ (x : ℤ). x ≡ pos 0) (pos 0) (pos 0) refl refl refl

zero_max : SubsetMax 1 1 (pos 0 ∷ pos 0 ∷ []) (pos 0 ∷ pos 0 ∷ [])
zero_max y l h = record {
  above = every {P = λ (p : List ℕ). at_ℤ (pos 0 ∷ pos 0 ∷ []) (rank_of 1 p) ≤ℤ at_ℤ (pos 0 ∷ pos 0 ∷ []) (rank_of 1 y)} (λ p. rw (no_leaves (rank_of 1 p), no_leaves (rank_of 1 y)) (≤ℤ_refl (pos 0))) (parts y);
  at = y;
  there = parts_all y y (Within-refl y);
  attained = refl;
}

-- the subset maximum of sheet, and the scatter: 5 for the tile
sheet_max : SubsetMax 1 1 board.sheet (pos 0 ∷ pos 5 ∷ [])
unfolding rank_of start within total binomial parts upto concat_map
sheet_max y l h =
    ⊎_elim
    (λ e. rw e (record { above = every_cons (≤ℤ_refl (pos 0)) every_nil; at = 0 ∷ []; there = Memᴰ.head refl; attained = refl }))
    (λ e. rw e (record { above = every_cons (record { le = tt }) (every_cons (≤ℤ_refl (pos 5)) every_nil); at = 1 ∷ []; there = Memᴰ.tail (Memᴰ.head refl); attained = refl }))
    (either y l h)

scatter_is : IsScatter board.sheet board.leave (pos 0 ∷ pos 0 ∷ []) (1 ∷ []) 1 (pos 0 ∷ pos 5 ∷ [])
unfolding rank_of start within total binomial parts upto concat_map scatter_at offered played best_from worth minus max_ℤ
scatter_is = record { long = refl; full = λ R l t. rw (the_rack R l t) refl; below = λ i h. let z : i ≡ 0 = omega arith in rw z refl }

splits_are : Split 1 1 (1 ∷ []) board.sheet board.leave (pos 0 ∷ pos 0 ∷ []) (pos 0 ∷ pos 5 ∷ [])
unfolding rank_of start within total binomial
splits_are = record { long = refl; rack = λ R f. rw (the_rack R f.letters f.tiles) (sym split_is); below = λ i h. let z : i ≡ 0 = omega arith in rw z refl }

module _ (mode : Mode) where
  -- what the fused call reads
  abbrev given : Fu.Input
  given = input 1 1 (1 ∷ []) [] board.sheet board.leave (pos 0 ∷ pos 0 ∷ []) (1 ∷ []) mode

  -- what it is lent, and what it leaves
  abbrev lent_in : Fu.Lent
  lent_in = lent (whole (pos 0) ∷ []) (whole (pos 0) ∷ []) (whole (pos 0) ∷ []) (pos 0 ∷ pos 0 ∷ [])

  abbrev lent_out : Fu.Lent
  lent_out = lent (whole (pos 5) ∷ []) (whole (pos 1) ∷ []) (whole (pos 1) ∷ []) (pos 0 ∷ pos 5 ∷ [])

  pub fused_premises : Premises board (fused mode (pos 0 ∷ pos 0 ∷ []))
  unfolding rank_of start within total binomial
  fused_premises = record { nonnegative = nonnegative; no_tiles = refl; given = record { is_max = λ e. zero_max; no_leave = λ e. no_leaves } }

  words : Fu.Scatters given
  words e = record { word_sheet = record { nonnegative = nonnegative; no_tiles = refl }; is_max = zero_max }

  sound : Sound given
  unfolding binomial total start largest lattice tallies upto concat_map Bounded
  sound = record {
    sizes = served_is;
    lengths = record { in_add = refl; in_by_letter = inl refl; in_sheet = refl; in_leave = refl; in_leave_max = λ e. refl; in_pool = refl };
    entries = record {
      sheet_bound = two_entries (λ (x : ℤ). nat_abs x ≤ 536870911) (pos 0) (pos 5) (omega arith) (omega arith) (omega arith);
      leave_bound = two_entries (λ (x : ℤ). nat_abs x ≤ 536870911) (pos 0) (pos 0) (omega arith) (omega arith) (omega arith);
    };
    ranks = record { add_table = add_right; by_letter = inl refl };
    words = words;
    limit = record { within = omega arith };
  }

  -- in every mode the best of the tile is 5
  mode_is : mode_best given (1 ∷ []) ≡ pos 5
  unfolding total
  mode_is = mode_split sound (1 ∷ []) (record { letters = refl; tiles = refl }) tt (λ e. no_leaves) ∙ split_is

  fused_filled : Filled given lent_in lent_out
  unfolding rank_of start within total binomial upto tallies concat_map
  fused_filled = record {
    sums = record {
      nums = refl;
      dens = refl;
      sum = λ m l h. rw (the_leave m l h) (ap (λ (z : ℤ). whole (z +ℤ pos 0)) (sym mode_is));
      count = λ m l h. rw (the_leave m l h) refl;
    };
    drawn = record { racks = refl; rack = λ R f. rw (the_rack R f.letters f.tiles) refl };
    bests = record { long = refl; alone = λ e. sheet_max; scattered = λ e. scatter_is; split = λ e f. splits_are };
  }

  pub fused_taken : Called board (fused mode (pos 0 ∷ pos 0 ∷ [])) (whole (pos 0) ∷ []) (whole (pos 0) ∷ []) 0 (whole (pos 5) ∷ []) (whole (pos 1) ∷ [])
  unfolding start binomial lattice tallies upto concat_map
  fused_taken = record {
    add = 1 ∷ [];
    by_letter = [];
    deals = whole (pos 0) ∷ [];
    maxsheet = pos 0 ∷ pos 0 ∷ [];
    deals' = whole (pos 1) ∷ [];
    maxsheet' = pos 0 ∷ pos 5 ∷ [];
    contract = record {
      answered = Fu.accepted (record { sound = sound; lengths = record { in_num = refl; in_den = refl; in_deals = refl; in_maxsheet = refl }; cleared = record { clear_num = clear_one; clear_den = clear_one; clear_deals = clear_one } });
      untouched = λ f. absurd (f refl);
      filled = λ _. fused_filled;
    };
  }

-- ---- every road

-- a call takes the board by the road: its premises hold, and with some slices it is accepted
pub record IsTaken (b : Board) (road : Road) : Type 0 where
  pub premises : Premises b road
  pub num : List Float
  pub den : List Float
  pub num' : List Float
  pub den' : List Float
  pub called : Called b road num den 0 num' den'

-- the table sums, and the fused sums under each setting of their flags, are taken on this board
pub record EveryRoad : Type 0 where
  pub by_table : (best : List ℤ) × IsTaken board (table best)
  pub by_fused : (mode : Mode) → (leave_max : List ℤ) × IsTaken board (fused mode leave_max)

pub every_road : EveryRoad
every_road = record {
  by_table = (pos 0 ∷ pos 5 ∷ [], record { premises = table_premises; num = _; den = _; num' = _; den' = _; called = table_taken });
  by_fused = λ mode. (pos 0 ∷ pos 0 ∷ [], record { premises = fused_premises mode; num = _; den = _; num' = _; den' = _; called = fused_taken mode });
}

-- The worked examples (docs/SCOPE.md, "Worked examples"): one table of what each says of the definitions. proofs/Worked has its theorem. Assumes nothing.
use Rattle.std.specs.Prelude.{◌≡◌, List, [], ◌∷◌, ℕ, ℤ, pos, negsuc, replicate}
use Rattle.whole.specs.Mean.{mean, unplayable}
use Rattle.lattice.specs.Answers.{len_answer, rank_answer}
use Rattle.refusal.specs.Refusal.{number_of}
use Rattle.lattice.specs.Numbers.{none, value}
use Rattle.search.specs.Split.{best_split}
use Rattle.search.specs.Order.{kept}
use Rattle.search.specs.BestKeep.{best_keep}
use Rattle.scatter.specs.Scatter.{scatter_at}
use Rattle.blanks.specs.Variants.{Tile, raised}
use Rattle.lattice.specs.Leaves.{AddTable}
use Rattle.worked.specs.Draws.{Keeping, Fifteen}
use Rattle.listing.specs.Listing.{listing_of}

-- the listing's board: n 2, r 2, pool (1,2); its sheet
abbrev sheet : List ℤ
sheet = pos 0 ∷ pos 2 ∷ pos 1 ∷ pos 10 ∷ pos 30 ∷ pos 5 ∷ []

-- its leave table
abbrev leave : List ℤ
leave = pos 0 ∷ pos 4 ∷ pos 7 ∷ pos 1 ∷ pos 3 ∷ negsuc 1 ∷ []

-- the subset maximum of its leave table
abbrev leave_max : List ℤ
leave_max = pos 0 ∷ pos 4 ∷ pos 7 ∷ pos 4 ∷ pos 7 ∷ pos 7 ∷ []

-- `2 2`, `1 2`, `0 2 1 10 30 5`, `0 4 7 1 3 -2`, each a line
abbrev input : List ℕ
input =
    50 ∷ 32 ∷ 50 ∷ 10 ∷ 49 ∷ 32 ∷ 50 ∷ 10 ∷ 48 ∷ 32 ∷ 50 ∷ 32 ∷ 49 ∷ 32 ∷ 49 ∷ 48 ∷ 32 ∷ 51 ∷ 48 ∷ 32 ∷ 53 ∷ 10 ∷ 48 ∷ 32 ∷ 52 ∷ 32 ∷ 55 ∷ 32 ∷ 49 ∷ 32 ∷ 51 ∷ 32 ∷ 45 ∷ 50 ∷ 10 ∷ []

-- `2 2 3`, `0 3 70 23`, `1 3 70 23`, `2 2 60 30`, each a line
abbrev output : List ℕ
output =
    50 ∷ 32 ∷ 50 ∷ 32 ∷ 51 ∷ 10 ∷ 48 ∷ 32 ∷ 51 ∷ 32 ∷ 55 ∷ 48 ∷ 32 ∷ 50 ∷ 51 ∷ 10 ∷ 49 ∷ 32 ∷ 51 ∷ 32 ∷ 55 ∷ 48 ∷ 32 ∷ 50 ∷ 51 ∷ 10 ∷ 50 ∷ 32 ∷ 50 ∷ 32 ∷ 54 ∷ 48 ∷ 32 ∷ 51 ∷ 48 ∷ 10 ∷ []

-- the leave table of the best leave
abbrev leaves : List ℤ
leaves = pos 0 ∷ pos 4 ∷ pos 4 ∷ pos 0 ∷ pos 0 ∷ pos 0 ∷ []

-- the placed tiles of the blank variants
abbrev placed : List Tile
placed = (1, pos 5) ∷ (2, pos 3) ∷ []

-- their sheet
abbrev zeros : List ℤ
zeros = replicate 10 (pos 0)

-- the lines
pub data Line : Type 0 where
  ranks : Line
  lengths : Line
  listing : Line
  bests : Line
  scatter : Line
  draws : Line
  keeps : Line
  variants : Line
  forced : Line
  heavy : Line
  cut : Line

-- THE TABLE: what each line says
abbrev pub Says : Line → Type 0
-- n 3, r 2: (0,0,1) is 1, (0,1,1) is 5, (1,1,0) is 8, (2,0,0) is 9; (1,1,1) is none
Says ranks =
    (value (rank_answer 3 2 (0 ∷ 0 ∷ 1 ∷ [])) ≡ 1)
    × (value (rank_answer 3 2 (0 ∷ 1 ∷ 1 ∷ [])) ≡ 5)
    × (value (rank_answer 3 2 (1 ∷ 1 ∷ 0 ∷ [])) ≡ 8)
    × (value (rank_answer 3 2 (2 ∷ 0 ∷ 0 ∷ [])) ≡ 9)
    × (value (rank_answer 3 2 (1 ∷ 1 ∷ 1 ∷ [])) ≡ none)
-- n 64, r 7: length 1,329,890,705; r 8 is refused with 1
Says lengths = (value (len_answer 64 7) ≡ 1329890705) × (number_of (len_answer 64 8) ≡ 1)
-- the listing above
Says listing = listing_of input ≡ output
-- its bests 10 and 30
Says bests = (best_split sheet leave 2 (0 ∷ 2 ∷ []) ≡ pos 10) × (best_split sheet leave 2 (1 ∷ 1 ∷ []) ≡ pos 30)
-- there, scatter leaves 7 for (2,0), whose best split is 8
Says scatter = (scatter_at sheet leave (1 ∷ 2 ∷ []) 2 leave_max (2 ∷ 0 ∷ []) ≡ pos 7) × (best_split sheet leave 2 (2 ∷ 0 ∷ []) ≡ pos 8)
-- there, keeping (0,1) and drawing from (1,1): 40 over 2, so 20, not 23
Says draws = Keeping
-- n 2, r 2, leave 0 4 4 0 0 0, rack (1,1): keep 1 gives (4, 1); keep 3 gives (UNPLAYABLE, none); keep 0 gives (0, 0)
Says keeps =
    (best_keep leaves 2 (1 ∷ 1 ∷ []) 1 ≡ kept (pos 4) 1)
    × (best_keep leaves 2 (1 ∷ 1 ∷ []) 3 ≡ kept unplayable none)
    × (best_keep leaves 2 (1 ∷ 1 ∷ []) 0 ≡ kept (pos 0) 0)
-- n 3, r 2, score 20, placed (1, 5) and (2, 3), unseen (1,1,1), 1 blank, sheet 0: entries 5, 7, 8 become 20, 15, 17
Says variants =
    raised 3 (1 ∷ 1 ∷ 1 ∷ []) 1 (pos 20) placed zeros ≡ pos 0 ∷ pos 0 ∷ pos 0 ∷ pos 0 ∷ pos 0 ∷ pos 20 ∷ pos 0 ∷ pos 15 ∷ pos 17 ∷ pos 0 ∷ []
-- same with unseen (1,0,1): only entry 7, 15. With 0 blanks: none
Says forced =
    (raised 3 (1 ∷ 0 ∷ 1 ∷ []) 1 (pos 20) placed zeros ≡ pos 0 ∷ pos 0 ∷ pos 0 ∷ pos 0 ∷ pos 0 ∷ pos 0 ∷ pos 0 ∷ pos 15 ∷ pos 0 ∷ pos 0 ∷ [])
    × (raised 3 (1 ∷ 0 ∷ 1 ∷ []) 0 (pos 20) placed zeros ≡ zeros)
-- n 1, r 15, pool 64, draw 15: a best of 56 answers 56; 57 is refused with 9
Says heavy = (add : List ℕ) → AddTable 1 15 add → Fifteen add
-- sum −7, count 2: −3
Says cut = mean (negsuc 6) 2 ≡ negsuc 2

-- What a call reads, as its judge hands it on. Assumes nothing.
use Rattle.std.specs.Prelude.{ℕ, List, []}
use Rattle.std.specs.Option.{option_map_or}
use Rattle.lattice.specs.declared.sizes.Sizes.{Sizes}
use Rattle.lattice.specs.declared.rank_tables.Ranks.{Ranks}
use Rattle.fused.specs.Answer.{Input, input}
use Rattle.fused.specs.declared.board.Board.{Board}

-- the ranks letter by letter: no entries where there is no such table
abbrev pub letters_in : Ranks → List ℕ
letters_in ranks = option_map_or (λ letters. letters.now) ranks.by_letter []

abbrev pub input_of : Sizes → List ℕ → List ℕ → Board → Input
input_of sizes add by_letter board = input sizes.n sizes.r add by_letter board.sheet.now board.leave.now board.leave_max.now board.unseen.now board.mode

abbrev pub judged : Ranks → Board → Input
judged ranks board = input_of ranks.sizes ranks.add.now (letters_in ranks) board

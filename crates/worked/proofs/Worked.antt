-- The worked examples of docs/SCOPE.md: the theorem of the table in specs/Worked. Assumes nothing.
use Rattle.std.specs.Prelude.{◌≡◌, refl}
use Rattle.laws.specs.Integer.{max_ℤ}
use Rattle.laws.specs.Lists.{upto, concat_map}
use Rattle.binomials.specs.Binomial.{binomial, row, below, by_row}
use Rattle.lattice.specs.Tally.{total, tallies, lattice, start, within, rank_of, minus, parts}
use Rattle.lattice.specs.Answers.{served, len_answer, rank_answer}
use Rattle.search.specs.Split.{worth, best_from, best_of, best_split}
use Rattle.search.specs.BestKeep.{leave_of, better_leave, of_tiles, best_keep}
use Rattle.scatter.specs.Scatter.{played, offered, scatter_at}
use Rattle.blanks.specs.Variants.{flags, marked, reals, dropped, count, fit, count_with, tally_with, allowed, index_of, worth_of, raised_by, raised}
use Rattle.maxima.specs.Maxima.{raise}
use Rattle.text.specs.Text.{natural, decimal, line}
use Rattle.sums.specs.Weight.{largest}
use Rattle.worked.specs.Draws.{keeping, fifteen}
use Rattle.listing.specs.Sizes.{cells_of}
use Rattle.listing.specs.Reading.{body, reading_of, reading}
use Rattle.listing.specs.Listing.{count_at, sum_at, rows, header, page, weight, board_number, listing_of}
use Rattle.worked.specs.Worked.{Line, Says, ranks, lengths, listing, bests, scatter, draws, keeps, variants, forced, heavy, cut}

-- binomials too large to compute by Pascal's rule alone
seven : binomial 71 64 ≡ 1329890705
unfolding row below
seven = by_row 71 64

eight : binomial 72 64 ≡ 11969016345
unfolding row below
eight = by_row 72 64

long : Says lengths
unfolding len_answer served
long = (rw seven, rw eight)

-- THE THEOREM
pub worked : (l : Line) → Says l
unfolding rank_answer served binomial rank_of start within total len_answer tallies lattice minus parts worth max_ℤ best_from best_of best_split played offered scatter_at leave_of better_leave of_tiles best_keep flags marked reals dropped count fit count_with tally_with raise allowed index_of worth_of raised_by raised upto concat_map natural decimal line cells_of body reading_of reading count_at sum_at rows header page largest weight board_number listing_of
worked ranks = (refl, refl, refl, refl, refl)
worked lengths = long
worked listing = refl
worked bests = (refl, refl)
worked scatter = (refl, refl)
worked draws = keeping
worked keeps = (refl, refl, refl)
worked variants = refl
worked forced = (refl, refl)
worked heavy = fifteen
worked cut = refl

-- The header, and the lines of the ranks before this one.
use Rattle.std.proofs.Common.{◌≡◌, ◌+◌, ◌*◌, ◌≤◌, ◌++◌, length}
use Rattle.listing.specs.Board.{board_lent}
use Rattle.listing.specs.Listing.{header, rows}
use Rattle.listing.proofs.page.sums_page.Given as goal

abbrev pub invariant-loop-rank : goal.invariant-loop-rank
invariant-loop-rank l = record {
  text : l.page.items ≡ header (board_lent l.fn.board) ++ rows (board_lent l.fn.board) l.rank;
  short : length l.page.items ≤ 66 + 88 * l.rank;
}

-- A board that is lent, as lists.
use Rattle.listing.specs.declared.board.Board.{Board as Lent}
use Rattle.listing.specs.Listing.{Board, board_given}

abbrev pub board_lent : Lent → Board
board_lent b = board_given b.n b.r b.pool.now b.sheet.now b.leave.now

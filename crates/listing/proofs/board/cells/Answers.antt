-- A lattice's length, or that it is refused.
use Rattle.std.proofs.Common.{refl}
use Rattle.listing.proofs.Cells.{cells_long, cells_given}
use Rattle.listing.proofs.board.cells.Goals as goal

pub returns-in-Ok-clause-ok : goal.returns-in-Ok-clause-ok
returns-in-Ok-clause-ok c = cells_given _ _ c.len.ensures.gives.is c.in-Ok.is c.if-len-le-CELLS.true

pub returns-in_default-clause-err : goal.returns-in_default-clause-err
returns-in_default-clause-err c = (refl, cells_long _ _ c.len.ensures.gives.is c.in-Ok.is c.if-len-le-CELLS.false)

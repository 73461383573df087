-- Sizes that are served are refused no start.
use Rattle.std.proofs.Common.{sym, ap, ◌∙◌}
use Rattle.lattice.specs.Numbers.{value}
use Rattle.listing.proofs.Cells.{start_is, start_ok}
use Rattle.listing.proofs.board.Board.leaves.Goals as goal

pub unwrap-requires : goal.unwrap-requires
unwrap-requires c = start_ok c.full_rack_start.result c.args.self.served (rw (c.lattice.ensures.n, c.lattice.ensures.r) at c.full_rack_start.ensures)

pub returns : goal.returns
returns c = sym (ap value c.unwrap.ensures) ∙ start_is c.args.self.served (rw (c.lattice.ensures.n, c.lattice.ensures.r) at c.full_rack_start.ensures)

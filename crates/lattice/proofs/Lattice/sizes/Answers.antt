use Rattle.std.proofs.Common.{sym, arith}
use Rattle.lattice.specs.Served.{Served, facts}
use Rattle.lattice.proofs.Lattice.sizes.Goals.{Else-not-serves}
use Rattle.lattice.proofs.Lattice.sizes.Goals as goal

sizes : (c : goal.Else-not-serves) → Served c.args.self.n c.args.self.r
sizes c = facts _ _ (sym c.if-not-serves.ensures)

pub start_of-requires : goal.start_of-requires
start_of-requires c = let s = sizes c in record { letters = s.letters; tiles = omega arith }

pub choose-requires : goal.choose-requires
choose-requires c = let s = sizes (goal.at.choose-requires c).Else-not-serves in record { letters = s.letters; tiles = omega arith }

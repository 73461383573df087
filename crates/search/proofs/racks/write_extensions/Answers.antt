-- `search::racks::write_extensions` meets its contract. Assumes nothing.
use mathlib.Core.Path.{◌≡◌}
use Prim.Native.Nat.{suc, ◌+◌, ◌-◌}
use native.Mathlib.Omega.{arith}
use lib.ListN.{length}
use Rattle.search.specs.Extended.{stop_inside}
use Rattle.search.specs.Racks.{spanned_put}
use Rattle.search.proofs.racks.write_extensions.Goals as goal

pub racks-requires-clause-inside : goal.racks-requires-clause-inside
racks-requires-clause-inside c = stop_inside c.requires.extending

pub returns : goal.returns
returns c =
    let entries : c.args.e.first + c.racks.result - c.args.e.first ≡ suc (length c.args.tally.now - c.args.e.stop) = omega (arith, c.racks.ensures) in
    spanned_put c.args.e.first (c.args.e.first + c.racks.result - c.args.e.first) c.args.out.now (omega (arith, entries, c.requires.extending.stops)) (omega (arith, entries, c.requires.room)) c.best_extensions.ensures

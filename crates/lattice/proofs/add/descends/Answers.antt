-- `lattice::add::descends` meets its contract. The invariant: `wrong` is 0 exactly where the entries below k go down by one each. Assumes nothing.
use Rattle.std.proofs.Common.{◌-◌, get_or}
use Rattle.lattice.proofs.AddStores.{gathered}
use Rattle.lattice.proofs.add.descends.Goals as goal

pub loop-k-preserved : goal.loop-k-preserved
loop-k-preserved c =
    let a = c.args in
    let at = c.loop-k in
    gathered (λ j. get_or a.part.now j 0) (λ j. a.first - j) at.k at.wrong at.invariant

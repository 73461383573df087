-- `lattice::add::follows_close` meets its contract. The invariant: `wrong` is 0 exactly where the entries that were passed are one more. Assumes nothing.
use Rattle.std.proofs.Common.{◌+◌, get_or, length}
use Rattle.std.proofs.lemmas.List.{length_push}
use Rattle.std.proofs.lemmas.Slice.Zip.{zip_turn}
use Rattle.lattice.proofs.AddStores.{gathered}
use Rattle.lattice.proofs.add.follows_close.Goals as goal

pub loop-was-preserved : goal.loop-was-preserved
loop-was-preserved c =
    let a = c.args in
    let at = c.loop-was in
    let z = zip_turn a.before.now a.row.now at.yielded c.into_iter-was-iterator.result _ c.next.new.self _ (rw (c.into_iter-was-iterator.ensures.into_iter_gives, c.zip-was-items.ensures.first) c.iter.ensures.rest) (rw c.into_iter-was-iterator.ensures.into_iter_gives c.zip-was-items.ensures.second.0) at.yielded_by _ c.in-Some.is c.next.ensures.steps in
    rw (z.2 0, z.3 0, length_push) (gathered (λ j. get_or a.row.now j 0) (λ j. get_or a.before.now j 0 + 1) (length at.yielded) at.wrong at.invariant)

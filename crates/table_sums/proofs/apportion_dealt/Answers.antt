-- `table_sums::apportion_dealt` meets its contract. Assumes nothing.
use mathlib.Core.Path.{refl}
use mathlib.Core.Bool.{false≢true}
use Rattle.table_sums.specs.Calls.{summed, beyond_restored, limit_holds, limit_fails, summing, restored}
use Rattle.table_sums.proofs.apportion_dealt.Goals as goal

pub sum_racks-requires : goal.sum_racks-requires
sum_racks-requires c =
    summing c.requires c.deal_from.ensures c.most_of-most.ensures (c.if-not-within_limit.ensures.0 refl)

pub returns : goal.returns
returns c =
    summed
    (limit_holds c.requires c.deal_from.ensures c.most_of-most.ensures (c.if-not-within_limit.ensures.0 refl))
    c.sum_racks.ensures

pub returns-then-not-within_limit : goal.returns-then-not-within_limit
returns-then-not-within_limit c =
    let d = c.requires in
    let v = c.deal_from.ensures in
    beyond_restored
    (limit_fails d v c.most_of-most.ensures (λ h. false≢true (c.if-not-within_limit.ensures.1 h)))
    (restored d v c.clear_from.ensures)

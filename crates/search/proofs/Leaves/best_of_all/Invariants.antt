use Rattle.std.proofs.Common.{◌≡◌, ◌+◌, ◌-◌, length, take}
use Rattle.laws.specs.Greatest.{GreatestBy}
use Rattle.lattice.specs.Tally.{total}
use Rattle.search.specs.declared.Kept.{Kept}
use Rattle.search.specs.Order.{KeptLe}
use Rattle.search.specs.Keep.{KeepReady, Keeps}
use Rattle.search.proofs.Leaves.best_of_all.Given as goal

abbrev pub decreases-loop-last : goal.decreases-loop-last
decreases-loop-last l = l.rest.stop

abbrev pub invariant-loop-last : goal.invariant-loop-last
invariant-loop-last l =
    (l.rest.tally.now ≡ l.runs.tally.now) × (l.place.tiles + total (take l.rest.stop l.runs.tally.now) ≡ l.self.keep)
    × KeepReady l.self.leave.now l.runs.tally.now l.rest.stop (total (take l.rest.stop l.runs.tally.now)) l.place.tiles l.place.before (total (take l.rest.stop l.runs.tally.now))
    × ((b r : Kept) → GreatestBy KeptLe b (Keeps l.self.leave.now (length l.runs.tally.now) (take l.rest.stop l.runs.tally.now) (length l.runs.tally.now - l.rest.stop) l.place.tiles l.place.before (total (take l.rest.stop l.runs.tally.now))) r
    → GreatestBy KeptLe b (Keeps l.self.leave.now (length l.runs.tally.now) (take l.runs.stop l.runs.tally.now) (length l.runs.tally.now - l.runs.stop) l.fn.kept.tiles l.fn.kept.before (total (take l.runs.stop l.runs.tally.now))) r)

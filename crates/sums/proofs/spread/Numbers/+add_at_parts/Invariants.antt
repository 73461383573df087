-- the measure is the number of letters left; the turns so far are done, in both tables
use Rattle.std.proofs.Common.{ℕ, ◌+◌, ◌≤◌, List, length}
use Rattle.lattice.specs.Step.{step}
use Rattle.sums.specs.Spread.{offers}
use Rattle.sums.proofs.Spreading.{Turned}
use Rattle.sums.proofs.spread.Numbers.+add_at_parts.Given as goal

abbrev pub decreases-add_at_parts : goal.decreases-add_at_parts
decreases-add_at_parts l = l.runs.stop

abbrev pub invariant-loop-c : goal.invariant-loop-c
invariant-loop-c l =
    let f = l.fn in
    let places : ℕ → List (ℕ × ℕ) = λ x. offers (length f.runs.tally.now) f.runs.tally.now l.before.stop (f.part.tiles + x) (f.part.before + step l.m (f.part.tiles + x) x) (f.rack.tiles + x) (f.rack.before + step l.m (f.rack.tiles + x) x) f.self.racks in
    (l.c ≤ l.c-end) × Turned places f.self.values.now l.initial.num l.num l.c × Turned places f.self.ways.now l.initial.den l.den l.c

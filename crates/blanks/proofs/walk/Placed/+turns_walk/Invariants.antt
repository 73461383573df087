-- The invariant and the measures of the cycle of calls {turns, walk}. The measure is twice the number of letters left, and one more for walk, which calls turns
-- for as many letters. The loop's invariant: no blank that is forced is left out, the value is less that many drops, and the sheet is raised by the turns so far.
use Rattle.std.proofs.Common.{◌+◌, ◌-◌, ◌≡◌, ◌≤◌, get_or}
use Rattle.blanks.specs.Raise.{Raised}
use Rattle.blanks.specs.Ready.{less, Turns}
use Rattle.blanks.proofs.walk.Placed.+turns_walk.Given as goal

abbrev pub decreases-turns : goal.decreases-turns
decreases-turns l = l.place.letters + l.place.letters

abbrev pub decreases-walk : goal.decreases-walk
decreases-walk l = l.place.letters + l.place.letters + 1

abbrev pub invariant-turns-loop-b : goal.invariant-turns-loop-b
invariant-turns-loop-b l =
    (l.count - get_or l.self.unseen.now l.letter 0 ≤ l.b) × (l.b ≤ l.count → l.u ≡ less l.v l.self.drops.now l.s l.b)
    × Raised l.initial.sheet (Turns l.self.letters.now l.self.drops.now l.self.unseen.now l.letter l.place.tiles l.s l.left l.place.blanks l.place.real l.place.rank l.v l.b) l.sheet

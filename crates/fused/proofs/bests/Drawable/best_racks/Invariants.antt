-- The racks that extend the leaves passed are done, and the walk has reached the next leave. Assumes nothing.
use Rattle.std.proofs.Common.{◌≡◌, ◌≤◌, length}
use Rattle.extensions.specs.Onward.{Reached}
use Rattle.search.specs.Racks.{Filled}
use Rattle.fused.specs.Bests.{drawn}
use Rattle.fused.proofs.bests.Drawable.best_racks.Given as goal

abbrev pub invariant-loop : goal.invariant-loop
invariant-loop l =
    record {
      low : l.counter ≤ l.self.sizes.leaves;
      size : length l.best ≡ length l.initial.best;
      filled : Filled l.self.board.sheet.now l.self.board.leave.now (drawn l.self.sizes.leaves l.self.ways.now) l.self.sizes.n l.self.sizes.r l.counter l.initial.best l.best;
      reached : Reached l.self.sizes.n l.self.sizes.r l.counter l.tally l.e.word l.e.stop l.e.first;
    }

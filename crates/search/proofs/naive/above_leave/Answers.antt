-- `search::naive::above_leave` meets its contract: the tally's rank is below the leaves' length.
-- Assumes nothing.
use native.Mathlib.Omega.{arith}
use Rattle.search.specs.NaiveKept.{rank_in}
use Rattle.search.proofs.naive.above_leave.Goals as goal

pub offset_bounds-leave-k : goal.offset_bounds-leave-k
offset_bounds-leave-k c =
    omega (arith, rank_in c.args.leave.now c.args.kept.now c.requires c.rank_of-k.ensures)

pub bounds-leave-k : goal.bounds-leave-k
bounds-leave-k c =
    rank_in c.args.leave.now c.args.kept.now c.requires c.rank_of-k.ensures

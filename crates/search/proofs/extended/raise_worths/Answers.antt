-- `search::extended::raise_worths` meets its contract: the ranks of all entries are below the table's length.
-- Assumes nothing.
use mathlib.Core.Path.{ap}
use Prim.Native.Nat.{ℕ, ◌+◌, ◌-◌, ◌<◌}
use native.Mathlib.Omega.{arith}
use lib.ListN.{length}
use Rattle.lattice.specs.Tally.{start}
use Rattle.search.specs.Counts.{rank_inside}
use Rattle.search.specs.Raised.{raised_worth}
use Rattle.search.proofs.extended.raise_worths.Goals.{Start}
use Rattle.search.proofs.extended.raise_worths.Goals as goal

-- the ranks of the run's last entry, and of b's entry
first_below : (c : goal.Start) → start c.args.n c.args.part.tiles + (c.args.part.before + (length c.args.run.now - 1)) < length c.args.a.now
first_below c = omega (arith, rank_inside c.args.n c.args.part.tiles c.requires.whole.played)

other_below : (c : goal.Start) → start c.args.n c.args.other.tiles + c.args.other.before < length c.args.b.now
other_below c = omega (arith, rank_inside c.args.n c.args.other.tiles c.requires.whole.kept)

pub overflow_add-at : goal.overflow_add-at
overflow_add-at c = omega (arith, first_below (goal.at.overflow_add-at c).Start)

pub overflow_add-to : goal.overflow_add-to
overflow_add-to c = omega (arith, other_below (goal.at.overflow_add-to c).Start)

pub raise_run-requires : goal.raise_run-requires
raise_run-requires c =
    record {
      entries = omega (arith, first_below (goal.at.raise_run-requires c).Start, c.requires.some);
      entry = omega (arith, other_below (goal.at.raise_run-requires c).Start);
      a_bound = c.requires.a_bound;
      b_bound = c.requires.b_bound;
    }

pub returns : goal.returns
returns c =
    let e = c.size_start.ensures in
    let f = c.size_start-2.ensures in
    raised_worth _ _ _ _ _ _ _ (ap (λ (k : ℕ). k + c.args.part.before) e) (ap (λ (k : ℕ). k + c.args.other.before) f) c.raise_run.ensures

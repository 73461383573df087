use Rattle.std.proofs.Common.{◌≡◌, ◌+◌, length, take, arith}
use Rattle.lattice.specs.Tally.{total, start}
use Rattle.search.specs.Keep.{end_below, keep_end}
use Rattle.search.proofs.KeepAll.{all_room, all_size, all_ready, all_over, all_none}
use Rattle.search.proofs.Leaves.best_of_all.Goals.{In_default}
use Rattle.search.proofs.Leaves.best_of_all.Goals as goal

pub with-place-requires-clause-tiles : goal.with-place-requires-clause-tiles
with-place-requires-clause-tiles c =
    let inv = c.loop-last.invariant in
    (all_room inv.2 (rw inv.0 at c.in-Some.ensures)).0

pub with-place-requires-clause-fits : goal.with-place-requires-clause-fits
with-place-requires-clause-fits c =
    let inv = c.loop-last.invariant in
    omega (arith, (all_room inv.2 (rw inv.0 at c.in-Some.ensures)).1, c.well_formed)

pub loop-last-preserved : goal.loop-last-preserved
loop-last-preserved c =
    let inv = c.loop-last.invariant in
    let run = rw inv.0 at c.in-Some.ensures in
    let place = c.with-place.ensures in
    (run.same, all_size inv.2 run place.tiles place.before inv.1, all_ready inv.2 run place.tiles place.before, λ b g k. inv.3 b g (all_over inv.2 run place.tiles place.before k))

-- no run is left
none : (c : goal.In_default) → total (take c.loop-last.rest.stop c.args.runs.tally.now) ≡ 0
none c =
    let inv = c.loop-last.invariant in
    all_none inv.2 (rw inv.0 at c.in_default.ensures)

begins : (c : goal.In_default) → c.args.self.now.first ≡ start (length c.args.runs.tally.now) (c.loop-last.place.tiles + total (take c.loop-last.rest.stop c.args.runs.tally.now))
begins c = rw (c.loop-last.invariant.1, c.requires.rack) c.args.self.now.begins

pub better_at-requires-clause-inside : goal.better_at-requires-clause-inside
better_at-requires-clause-inside c =
    let d = (goal.at.better_at-requires-clause-inside c).In_default in
    end_below c.loop-last.invariant.2 (none d) (begins d)

pub returns : goal.returns
returns c =
    let d = (goal.at.returns c).In_default in
    c.loop-last.invariant.3 _ _ (keep_end c.loop-last.invariant.2 (none d) (begins d) c.better_at.ensures)

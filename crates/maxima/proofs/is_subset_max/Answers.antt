-- `maxima::is_subset_max` meets its contract: the walk begins at no tiles, and every letter's place at 0. Assumes nothing.
use mathlib.Core.Path.{sym, ◌∙◌}
use Prim.Native.Nat.{◌≤◌}
use lib.Seq.{length-take-le}
use Rattle.lattice.specs.Lattice.{length_lattice}
use Rattle.lattice.specs.Served.{facts}
use Rattle.maxima.specs.Judge.{Judging}
use Rattle.maxima.proofs.Laws.{reached_first}
use Rattle.maxima.proofs.is_subset_max.Goals.{Start}
use Rattle.maxima.proofs.is_subset_max.Goals as goal

letters : (s : goal.Start) → s.args.sizes.n ≤ 64
letters s = (facts _ _ s.args.sizes.is_served).letters

judging : (s : goal.Start) → Judging s.args.sizes.n s.args.sizes.r s.args.d.now s.args.m.now
judging s =
    let long = s.args.sizes.counts ∙ sym (length_lattice s.args.sizes.n s.args.sizes.r) in
    record { sizes = s.args.sizes.is_served; in_d = s.requires.in_d ∙ long; in_m = s.requires.in_m ∙ long }

pub slice_bounds-all_local-end : goal.slice_bounds-all_local-end
slice_bounds-all_local-end c = sym (length-take-le _ _ (letters (goal.at.slice_bounds-all_local-end c).Start))

pub slice_bounds-all_local-end-2 : goal.slice_bounds-all_local-end-2
slice_bounds-all_local-end-2 c = sym (length-take-le _ _ (letters (goal.at.slice_bounds-all_local-end-2 c).Start))

pub all_local-requires : goal.all_local-requires
all_local-requires c = let s = (goal.at.all_local-requires c).Start in reached_first (letters s) (judging s)

pub returns : goal.returns
returns c = rw (length-take-le _ _ (letters (goal.at.returns c).Start)) at c.all_local.ensures

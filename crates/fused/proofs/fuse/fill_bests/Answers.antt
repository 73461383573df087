-- The mode is of one of three kinds. Assumes nothing.
use Rattle.std.proofs.Common.{refl, sym, ◌∙◌, length-take-le}
use Rattle.lattice.specs.Served.{facts}
use Rattle.fused.specs.Fuse.{splitting, scattering, bests_alone, bests_scattered, bests_split, racks_after}
use Rattle.fused.proofs.Sources.{from_sheet, from_scatter, from_split}
use Rattle.fused.proofs.fuse.fill_bests.Goals as goal

pub subset_max-requires : goal.subset_max-requires
subset_max-requires c =
    let t = c.args.ranks.now in
    record { starts = t.sizes.starts; by_index = t.by_index; in_src = c.requires.sound.lengths.in_sheet; in_dst = c.requires.room }

pub returns-in-Sheet : goal.returns-in-Sheet
returns-in-Sheet c =
    bests_alone c.requires.sound (from_sheet c.args.board.now.mode (sym c.source.ensures ∙ c.in-Sheet.is)) (c.subset_max.ensures.greatest, c.subset_max.ensures.size)

pub fill_scatter-requires : goal.fill_scatter-requires
fill_scatter-requires c =
    let p = c.requires in
    let force = (from_scatter c.args.board.now.mode (sym c.source.ensures ∙ c.in-Scatter.is)).1 in
    record { scattering = scattering p.sound force; room = p.sound.lengths.in_leave_max force ∙ sym p.room }

pub returns-in-Scatter : goal.returns-in-Scatter
returns-in-Scatter c =
    let k = from_scatter c.args.board.now.mode (sym c.source.ensures ∙ c.in-Scatter.is) in
    bests_scattered c.requires.sound k.0 k.1 c.requires.room c.fill_scatter.ensures

pub slice_bounds-tally-end : goal.slice_bounds-tally-end
slice_bounds-tally-end c = let s = c.args.ranks.now.sizes in (facts s.n s.r s.is_served).letters

pub slice_bounds-best_racks-end : goal.slice_bounds-best_racks-end
slice_bounds-best_racks-end c = let s = c.args.ranks.now.sizes in sym (length-take-le _ _ (facts s.n s.r s.is_served).letters)

pub best_racks-requires : goal.best_racks-requires
best_racks-requires c =
    let p = c.requires in
    let s = c.args.ranks.now.sizes in
    record { tally = length-take-le _ _ (facts s.n s.r s.is_served).letters; tables = splitting p.sound s.starts p.ways.racks p.room }

pub returns-in-Split : goal.returns-in-Split
returns-in-Split c =
    let p = c.requires in
    let k = from_split c.args.board.now.mode (sym c.source.ensures ∙ c.in-Split.is) in
    bests_split p.sound k.0 k.1 (racks_after p.sound p.ways refl c.args.ranks.now.sizes.starts c.best_racks.ensures.filled)

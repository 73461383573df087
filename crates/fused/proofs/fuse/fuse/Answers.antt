-- The sums are folded or spread over the same ways and bests. Assumes nothing.
use Rattle.std.proofs.Common.{refl, sym, ◌∙◌, length-take-le}
use Rattle.lattice.specs.Served.{facts}
use Rattle.fused.specs.Fuse.{pool_fits, deals_after, racks_full, fold_after, spread_after}
use Rattle.fused.proofs.Judges.{whole}
use Rattle.fused.proofs.Laws.{judged_by_index, judged_by_letter}
use Rattle.fused.proofs.fuse.fuse.Goals as goal

pub deal_racks-requires : goal.deal_racks-requires
deal_racks-requires c = pool_fits c.requires

pub fill_bests-requires : goal.fill_bests-requires
fill_bests-requires c =
    record { room = c.requires.lengths.in_maxsheet; sound = c.requires.sound; ways = deals_after c.requires c.deal_racks.ensures }

pub invariant_of-supersets : goal.invariant_of-supersets
invariant_of-supersets c =
    let p = c.requires in
    let t = c.args.ranks.now in
    let b = c.fill_bests.ensures in
    record {
      by_index = judged_by_index t.sizes.starts t.by_index (b.long ∙ p.lengths.in_maxsheet);
      letter_by_letter = λ letters e. judged_by_letter t.sizes.starts t.by_index (t.letter_by_letter letters e);
      full = racks_full p t.sizes.starts (deals_after p c.deal_racks.ensures) b;
    }

pub invariant_of-racks : goal.invariant_of-racks
invariant_of-racks c =
    let p = c.requires in
    let s = c.args.ranks.now.sizes in
    let b = c.fill_bests.ensures in
    record {
      bests = b.long ∙ p.lengths.in_maxsheet ∙ sym (whole s);
      full = racks_full p s.starts (deals_after p c.deal_racks.ensures) b;
    }

pub fold_zeta-requires : goal.fold_zeta-requires
fold_zeta-requires c =
    let p = c.requires in
    let s = c.args.ranks.now.sizes in
    record { letters = p.sound.lengths.in_pool; nums = p.lengths.in_num ∙ sym s.starts; dens = p.lengths.in_den ∙ sym s.starts }

pub slice_bounds-tally-end : goal.slice_bounds-tally-end
slice_bounds-tally-end c = let s = c.args.ranks.now.sizes in (facts s.n s.r s.is_served).letters

pub slice_bounds-spread_racks-end : goal.slice_bounds-spread_racks-end
slice_bounds-spread_racks-end c = let s = c.args.ranks.now.sizes in sym (length-take-le _ _ (facts s.n s.r s.is_served).letters)

pub spread_racks-requires : goal.spread_racks-requires
spread_racks-requires c = let s = c.args.ranks.now.sizes in length-take-le _ _ (facts s.n s.r s.is_served).letters

pub returns-then-board : goal.returns-then-board
returns-then-board c =
    let p = c.requires in
    let w = deals_after p c.deal_racks.ensures in
    let b = c.fill_bests.ensures in
    let v = c.fold_zeta.ensures in
    record { sums = fold_after p c.args.ranks.now.sizes.starts w b v.num v.den; drawn = w; bests = b }

pub returns-else-board : goal.returns-else-board
returns-else-board c =
    let p = c.requires in
    let w = deals_after p c.deal_racks.ensures in
    let b = c.fill_bests.ensures in
    let v = c.spread_racks.ensures in
    record { sums = spread_after p c.args.ranks.now.sizes.starts w b refl v.num v.den; drawn = w; bests = b }

use borrow.Author.Rules.{rules}
use mathlib.Core.Path.{◌≡◌, ◌∙◌}
use Prim.Native.Nat.{◌+◌, ◌<◌}
use native.Mathlib.Omega.{arith}
use lib.IntN.{pos}
use lib.ListN.{length, get_or}
use mir.Syntax.{w32}
use mir.Val.{SFits}
use mir.ValLaws.{to_z-of_z}
use Rattle.lattice.specs.Tally.{start}
use Rattle.search.specs.Split.{guarded, worth_at}
use Rattle.search.specs.Counts.{rank_inside}
use Rattle.search.proofs.Tables.worth.Goals.{Start}
use Rattle.search.proofs.Tables.worth.Goals as goal

-- where the tallies of the two sizes begin
played_from : (c : goal.Start) → get_or c.args.self.now.starts c.args.played.tiles 0 ≡ start c.args.self.now.n c.args.played.tiles
played_from c = c.args.self.now.begin.each c.args.played.tiles c.requires.tiles.0

kept_from : (c : goal.Start) → get_or c.args.self.now.starts c.args.kept.tiles 0 ≡ start c.args.self.now.n c.args.kept.tiles
kept_from c = c.args.self.now.begin.each c.args.kept.tiles c.requires.tiles.1

-- the two ranks of a call
played_below : (c : goal.Start) → get_or c.args.self.now.starts c.args.played.tiles 0 + c.args.played.before < length c.args.self.now.sheet.now
played_below c = omega (arith, played_from c, rank_inside c.args.self.now.n c.args.played.tiles c.requires.played)

kept_below : (c : goal.Start) → get_or c.args.self.now.starts c.args.kept.tiles 0 + c.args.kept.before < length c.args.self.now.leave.now
kept_below c = omega (arith, kept_from c, rank_inside c.args.self.now.n c.args.kept.tiles c.requires.kept)

pub overflow_add-sheet_rank : goal.overflow_add-sheet_rank
overflow_add-sheet_rank c = omega (arith, played_below (goal.at.overflow_add-sheet_rank c).Start)

pub overflow_add-leave_rank : goal.overflow_add-leave_rank
overflow_add-leave_rank c = omega (arith, kept_below (goal.at.overflow_add-leave_rank c).Start)

pub offset_bounds-self-sheet_rank : goal.offset_bounds-self-sheet_rank
offset_bounds-self-sheet_rank c = omega (arith, played_below (goal.at.offset_bounds-self-sheet_rank c).Start)

pub bounds-self-sheet_rank : goal.bounds-self-sheet_rank
bounds-self-sheet_rank c = omega (arith, played_below (goal.at.bounds-self-sheet_rank c).Start)

pub offset_bounds-self-leave_rank : goal.offset_bounds-self-leave_rank
offset_bounds-self-leave_rank c = omega (arith, kept_below (goal.at.offset_bounds-self-leave_rank c).Start)

pub bounds-self-leave_rank : goal.bounds-self-leave_rank
bounds-self-leave_rank c = omega (arith, kept_below (goal.at.bounds-self-leave_rank c).Start)

pub returns : goal.returns
unfolding worth_at
returns c =
    let a = c.args in
    let v = c.sum_guarded in
    let p = get_or a.self.now.starts a.played.tiles 0 + a.played.before in
    let k = get_or a.self.now.starts a.kept.tiles 0 + a.kept.before in
    let fp : SFits w32 (get_or a.self.now.sheet.now p (pos 0)) = search rules in
    let fk : SFits w32 (get_or a.self.now.leave.now k (pos 0)) = search rules in
    to_z-of_z w32 v.result (record { sfits = v.type_inv }) ∙ v.ensures
    ∙ (λ i. guarded (to_z-of_z w32 (get_or a.self.now.sheet.now p (pos 0)) fp i) (to_z-of_z w32 (get_or a.self.now.leave.now k (pos 0)) fk i))
    ∙ (λ i. guarded (get_or a.self.now.sheet.now (played_from (goal.at.returns c).Start i + a.played.before) (pos 0)) (get_or a.self.now.leave.now (kept_from (goal.at.returns c).Start i + a.kept.before) (pos 0)))

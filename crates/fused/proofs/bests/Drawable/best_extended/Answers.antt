-- Where no way is above 0, nothing is to be written. Assumes nothing.
use Rattle.std.proofs.Common.{pos, ◌≡◌, ◌+◌, ◌-◌, ◌≤◌, sym, ◌∙◌, subst, length-take-le, arith}
use Rattle.std.specs.Prelude.{replicate}
use Rattle.search.specs.Extended.{Extending, stop_some, stop_inside}
use Rattle.fused.specs.Bests.{undrawn_spanned, put_spanned}
use Rattle.fused.proofs.Laws.{undrawn_part}
use Rattle.fused.proofs.bests.Drawable.best_extended.Goals.{After-racks-size}
use Rattle.fused.proofs.bests.Drawable.best_extended.Goals as goal

-- the racks are no more than the letters
few : (c : goal.After-racks-size) → c.racks-size.result ≤ 64
few c = omega (arith, c.racks-size.ensures, stop_some c.requires.extending, stop_inside c.requires.extending, c.requires.extending.few)

pub racks-size-requires-clause-inside : goal.racks-size-requires-clause-inside
racks-size-requires-clause-inside c = stop_inside c.requires.extending

pub slice_bounds-room-end : goal.slice_bounds-room-end
slice_bounds-room-end c = few (goal.at.slice_bounds-room-end c).After-racks-size

pub slice_bounds-run-end : goal.slice_bounds-run-end
slice_bounds-run-end c = sym (length-take-le _ _ (few (goal.at.slice_bounds-run-end c).After-racks-size))

pub best_extensions-requires : goal.best_extensions-requires
best_extensions-requires c =
    let e = length-take-le c.racks-size.result _ (few (goal.at.best_extensions-requires c).After-racks-size) in
    subst (Extending c.args.self.now.board.sheet.now c.args.self.now.board.leave.now c.args.tally.now c.args.e.stop) (sym c.racks-size.ensures ∙ sym e) c.requires.extending

pub write_run-requires : goal.write_run-requires
write_run-requires c =
    let p = c.requires in
    let e = length-take-le c.racks-size.result (replicate 64 (pos 0)) (few (goal.at.write_run-requires c).After-racks-size) in
    record { full_racks = p.full_racks; room = omega (arith, p.room, c.best_extensions.ensures.size, e, c.racks-size.ensures); ways = p.ways }

pub returns-then-any_drawn : goal.returns-then-any_drawn
returns-then-any_drawn c =
    let v = c.best_extensions.ensures in
    let e = length-take-le c.racks-size.result (replicate 64 (pos 0)) (few (goal.at.returns-then-any_drawn c).After-racks-size) in
    put_spanned (omega (arith, c.requires.extending.stops, v.size, e, c.racks-size.ensures)) (omega (arith, v.size)) v c.write_run.ensures

pub returns-else-any_drawn : goal.returns-else-any_drawn
returns-else-any_drawn c =
    let p = c.requires in
    let at : c.args.self.now.sizes.leaves + (c.args.e.first - c.args.self.now.sizes.leaves) ≡ c.args.e.first = omega (arith, p.full_racks) in
    undrawn_spanned c.args.self.now.sizes.leaves (omega (arith, p.extending.stops, c.racks-size.ensures)) at (undrawn_part (omega (arith, p.room, p.ways, c.racks-size.ensures)) (sym c.any_drawn.ensures ∙ c.if-any_drawn.false))

use Rattle.std.proofs.Common.{◌≡◌, ◌+◌, ◌-◌, ℕ, ℤ, length, take, ap, ◌∙◌, arith, w32}
use Rattle.std.proofs.Math.Path.{transport}
use mir.ValLaws.{to_z-of_z}
use Rattle.laws.specs.Greatest.{GreatestBy}
use Rattle.search.specs.Walk.{ready_whole, part_played, part_kept, ready_next}
use Rattle.search.specs.declared.Kept.{Kept}
use Rattle.search.specs.Order.{kept, KeptLe}
use Rattle.search.specs.NaiveWalk.{Turns, turns_more, mark_end, mark_next, mark_done, place_small, places_few, place_under, place_next}
use Rattle.search.proofs.Tables.+first.Goals.{After-first-found}
use Rattle.search.proofs.Tables.+first.Goals as goal

pub worth-value-requires : goal.worth-value-requires
worth-value-requires t c = rw (← c.requires.rack) (ready_whole c.requires.ready c.if-i-eq0.true)

pub overflow_cast-among : goal.overflow_cast-among
overflow_cast-among t c = omega (arith, place_small c.requires.places)

pub with-next-requires-clause-fits : goal.with-next-requires-clause-fits
with-next-requires-clause-fits t c =
    omega (arith, places_few c.requires.places c.requires.ready.letters c.if-i-eq0.false c.from-count.ensures)

pub with-next-requires-clause-below : goal.with-next-requires-clause-below
with-next-requires-clause-below t c =
    omega (arith, places_few c.requires.places c.requires.ready.letters c.if-i-eq0.false c.from-count.ensures, place_under c.requires.places c.requires.ready.letters c.if-i-eq0.false c.from-count.ensures c.loop-x-test.true)

pub with-p-requires-clause-tiles : goal.with-p-requires-clause-tiles
with-p-requires-clause-tiles t c = (part_played c.requires.ready c.if-i-eq0.false c.from-count.ensures c.loop-x-test.true (omega (arith, c.well_formed))).0

pub with-p-requires-clause-fits : goal.with-p-requires-clause-fits
with-p-requires-clause-fits t c = (part_played c.requires.ready c.if-i-eq0.false c.from-count.ensures c.loop-x-test.true (omega (arith, c.well_formed))).1

pub with-k-requires-clause-tiles : goal.with-k-requires-clause-tiles
with-k-requires-clause-tiles t c = (part_kept c.requires.ready c.if-i-eq0.false c.from-count.ensures c.loop-x-test.true (omega (arith, c.well_formed))).0

pub with-k-requires-clause-fits : goal.with-k-requires-clause-fits
with-k-requires-clause-fits t c = (part_kept c.requires.ready c.if-i-eq0.false c.from-count.ensures c.loop-x-test.true (omega (arith, c.well_formed))).1

pub first-found-requires : goal.first-found-requires
first-found-requires t c = (
  omega (arith, c.decreases),
  (
    c.requires.rack,
    (
      rw (c.with-p.ensures.tiles, c.with-k.ensures.tiles) (ready_next c.requires.ready c.if-i-eq0.false c.from-count.ensures c.loop-x-test.true c.with-p.ensures.before c.with-k.ensures.before),
      place_next c.requires.places c.requires.ready.letters c.if-i-eq0.false c.from-count.ensures c.loop-x-test.true c.with-next.ensures.at c.with-next.ensures.parts,
    ),
  ),
)

-- after the call of a turn: the best of the turns up to it
turned : (t : ℕ) (c : goal.After-first-found t)
    → GreatestBy KeptLe c.args.best (Turns c.args.self.now.sheet.now c.args.self.now.leave.now (length c.args.tally.now) (take (c.args.i - 1) c.args.tally.now) c.from-count.result (length c.args.tally.now - c.args.i) c.args.played.tiles c.args.played.before c.args.kept.tiles c.args.kept.before c.args.among.at c.args.among.parts (c.loop-x.x + 1)) c.first-found.result
turned t c =
    turns_more _ _ _ _ _ _ _ _ _ _ _ _ _ c.loop-x.invariant.1
    (mark_next c.args.tally.now c.args.played.tiles c.args.played.before c.args.kept.tiles c.args.kept.before c.args.among.at c.args.among.parts c.requires.ready.letters c.if-i-eq0.false c.from-count.ensures c.loop-x.x c.with-p.ensures.before c.with-k.ensures.before c.with-next.ensures.at c.with-next.ensures.parts
    (rw (c.with-p.ensures.tiles, c.with-k.ensures.tiles) at c.first-found.ensures))

pub loop-x-preserved : goal.loop-x-preserved
loop-x-preserved t c = (omega arith, turned t (goal.at.loop-x-preserved t c).After-first-found)

pub returns-then-i-eq0 : goal.returns-then-i-eq0
returns-then-i-eq0 t c =
    let a = c.args in
    let v = c.worth-value in
    let one = ap (λ (z : ℤ). kept z a.among.at) (to_z-of_z w32 v.result (record { sfits = v.type_inv }) ∙ v.ensures) in
    mark_end a.self.now.sheet.now a.self.now.leave.now (length a.tally.now) _ a.played.tiles a.played.before a.kept.tiles a.kept.before a.among.at a.among.parts a.tally.now c.if-i-eq0.true
    (rw (← c.requires.rack) at (transport (λ i. GreatestBy KeptLe a.best (λ (x : Kept). x ≡ one i) c.better.result) c.better.ensures))

pub returns-else-i-eq0-2 : goal.returns-else-i-eq0-2
returns-else-i-eq0-2 t c =
    mark_done c.args.tally.now c.args.played.tiles c.args.played.before c.args.kept.tiles c.args.kept.before c.args.among.at c.args.among.parts c.requires.ready.letters c.if-i-eq0.false c.from-count.ensures (c.loop-x.x + 1) (omega arith) (turned t (goal.at.returns-else-i-eq0-2 t c).After-first-found)

-- `fused::plain::take_racks` meets its contract. The loop's invariant: the racks so far have their numbers. Assumes nothing.
use Prim.Native.Nat.{◌+◌}
use mathlib.Core.Path.{refl, ap, ◌∙◌}
use native.Mathlib.Omega.{arith}
use Rattle.fused.specs.Zeta.{ways_at}
use Rattle.fused.specs.Spreads.{drawn_value}
use Rattle.fused.proofs.Laws.{taken_more, place_best}
use Rattle.fused.proofs.racks.Racks.take_racks.Goals as goal

pub loop-j-preserved : goal.loop-j-preserved
loop-j-preserved c =
    let a = c.args in
    let p = c.requires in
    let l = c.loop-j in
    let taken = c.loop-j-test.true in
    let v = c.rack_value.ensures in
    let b = place_best a.self.now.best.now (a.first + l.j) (omega (arith, p.inside, p.full)) in (
      omega (arith, taken),
      taken_more l.invariant.1 (omega (arith, taken, l.invariant.1.long)) (v ∙ ap (drawn_value (ways_at a.self.now.sizes.leaves a.self.now.ways.now (a.first + l.j))) b),
      taken_more l.invariant.2 (omega (arith, taken, l.invariant.2.long, p.same)) refl,
    )

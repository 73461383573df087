-- `draws::walk::Walk::gain` meets its contract. Assumes nothing.
use mathlib.Core.Path.{◌≡◌, ap, ap₂, ◌∙◌}
use Prim.Native.Nat.{ℕ, max}
use lib.IntN.{ℤ, nat_abs}
use lib.Ieee.{Float, binary64, add, mul}
use mir.Syntax.{w32}
use mir.Val.{SFits, to_z, of_z}
use mir.ValLaws.{to_z-of_z}
use borrow.Author.Rules.{rules}
use Rattle.laws.specs.Integer.{at_ℤ}
use Rattle.whole.specs.Whole.{whole}
use Rattle.draws.specs.Walk.{totals, gathered_one}
use Rattle.draws.specs.Walk as Walk
use Rattle.draws.specs.Walk.{factor, met, met_tile, Gathered}
use Rattle.draws.proofs.walk.Walk.gain.Goals as goal

pub returns : goal.returns
unfolding Walk.gain
returns c =
    let a = c.args in
    let x : ℤ = at_ℤ a.self.now.full_v.now a.rack.ridx in
    let fits : SFits w32 x = search rules in
    let back : to_z w32 (of_z w32 x) ≡ x = to_z-of_z w32 x fits in
    gathered_one (a.rack.w, a.rack.ridx)
    (ap₂ (λ (f : Float) (k : ℕ). totals (add binary64 a.sums.num (mul binary64 a.rack.w f)) (add binary64 a.sums.den a.rack.w) k) (c.from.ensures ∙ ap whole back) (c.larger.ensures ∙ ap (λ (z : ℤ). max a.sums.most (nat_abs z)) back))
    fits.sfits

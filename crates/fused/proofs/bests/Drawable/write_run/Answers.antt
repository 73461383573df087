-- `fused::bests::write_run` meets its contract. Assumes nothing.
use mathlib.Core.Path.{◌≡◌}
use Prim.Native.Nat.{◌+◌, ◌-◌}
use native.Mathlib.Omega.{arith}
use borrow.Author.Rules.{rules}
use Rattle.fused.specs.Bests.{put_more}
use Rattle.fused.proofs.bests.Drawable.write_run.Goals as goal

pub loop-j-preserved : goal.loop-j-preserved
loop-j-preserved c =
    let a = c.args in
    let l = c.loop-j in
    let at : a.self.now.sizes.leaves + (a.first - a.self.now.sizes.leaves) ≡ a.first = omega arith in
    let more = put_more l.invariant.2 (a.first - a.self.now.sizes.leaves) at (search rules) (omega arith) c.write_drawn.ensures in
    (omega arith, more.size, more)

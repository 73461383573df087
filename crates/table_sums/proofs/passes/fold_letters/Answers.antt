-- `table_sums::passes::fold_letters` meets its contract. The loop's invariant: whatever is summed, the letters before t are taken. Assumes nothing.
use mathlib.Core.Path.{◌≡◌, refl, ap, ◌∙◌}
use mathlib.Core.List.{List}
use Prim.Native.Nat.{◌<◌}
use native.Mathlib.Omega.{arith}
use lib.Ieee.{Float}
use lib.ListN.{length}
use Rattle.table_sums.specs.Passes.{folded_more, folded_skip, folded_all}
use Rattle.table_sums.proofs.passes.fold_letters.Goals.{then-count-ne0, else-count-ne0}
use Rattle.table_sums.proofs.passes.fold_letters.Goals as goal

pub loop-t-preserved : goal.loop-t-preserved
loop-t-preserved c =
    let l = c.loop-t in
    let h : l.t < length c.args.unseen.now = c.loop-t-test.true in
    let over : (ys : List Float) → c.if-count-ne0.xs ≡ ys → length ys ≡ length l.xs → length c.if-count-ne0.xs ≡ length c.args.xs.now = λ ys e k. ap length e ∙ k ∙ l.invariant.1 in
    elim c.if-count-ne0.branch [
      | then-count-ne0 w ↦ (omega arith, over _ w.xs-is w.gain_letter.ensures.long, λ g f. rw w.xs-is (folded_more f l.t h (l.invariant.2 g f) (rw (← c.requires.letters) at w.gain_letter.ensures)))
      | else-count-ne0 w ↦ (omega arith, over _ w.xs-is refl, λ g f. rw w.xs-is (folded_skip f l.t h w.if-count-ne0.false (l.invariant.2 g f)))
    ]

pub returns : goal.returns
returns c =
    let l = c.loop-t in
    let e : l.t ≡ length c.args.unseen.now = omega arith in
    record { size = l.invariant.1; sums = λ g f. folded_all f e (l.invariant.2 g f) }

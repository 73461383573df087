-- Each rank is the letter's, wherever its column is. Assumes nothing.
use Rattle.std.proofs.Common.{ℕ, ◌-◌, ◌<◌, List, Float, ap, ◌∙◌, arith}
use Rattle.laws.specs.Loops.{descend_more}
use Rattle.lattice.specs.Tables.{up}
use Rattle.sums.specs.Folds.{gained_f}
use Rattle.fused.specs.Zeta.{clipped, gained_w}
use Rattle.fused.proofs.zeta.Supersets.gain_letter.Goals as goal

pub loop-idx-preserved : goal.loop-idx-preserved
loop-idx-preserved c =
    let s = c.args.self.now in
    let l = c.loop-idx in
    let left = c.loop-idx-test.true in
    let below : l.idx - 1 < s.leaves = omega arith in
    let at = c.column_of-column.ensures.same (l.idx - 1) below in
    let to : ℕ → ℕ = up s.n s.add.now c.args.t in
    let f : ℕ → ℕ → List Float → List Float = gained_f s.leaves s.ways.now (clipped s.best.now) in
    let w : ℕ → ℕ → List Float → List Float = gained_w s.leaves s.ways.now in
    let p = c.gain.ensures in
    record {
      nums = c.gain.auto.num ∙ l.invariant.nums;
      dens = c.gain.auto.den ∙ l.invariant.dens;
      num = descend_more (λ i. f i (to i)) l.idx l.num _ _ left l.invariant.num (p.num ∙ ap (λ (j : ℕ). f (l.idx - 1) j l.num) at);
      den = descend_more (λ i. w i (to i)) l.idx l.den _ _ left l.invariant.den (p.den ∙ ap (λ (j : ℕ). w (l.idx - 1) j l.den) at);
    }

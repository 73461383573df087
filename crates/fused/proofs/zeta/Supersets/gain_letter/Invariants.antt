-- What is left of the pass makes of num and den what the whole pass makes of them at entry. Assumes nothing.
use Rattle.std.proofs.Common.{◌≡◌, ℕ, length}
use Rattle.laws.specs.Loops.{descend}
use Rattle.sums.specs.Folds.{gained_f, sum_pass_f}
use Rattle.lattice.specs.Tables.{up}
use Rattle.fused.specs.Zeta.{clipped, gained_w, sum_pass_w}
use Rattle.fused.proofs.zeta.Supersets.gain_letter.Given as goal

abbrev pub invariant-loop-idx : goal.invariant-loop-idx
invariant-loop-idx l =
    let s = l.self in
    let to : ℕ → ℕ = up s.n s.add.now l.t in
    let ways = s.ways.now in
    let best = clipped s.best.now in
    record {
      nums : length l.num ≡ length l.initial.num;
      dens : length l.den ≡ length l.initial.den;
      num : descend (λ i. gained_f s.leaves ways best i (to i)) l.idx l.num ≡ sum_pass_f s.leaves ways best to l.initial.num;
      den : descend (λ i. gained_w s.leaves ways i (to i)) l.idx l.den ≡ sum_pass_w s.leaves ways to l.initial.den;
    }

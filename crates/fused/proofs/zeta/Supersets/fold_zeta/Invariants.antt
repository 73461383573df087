-- num and den are what the passes of the letters below t make of them at entry, and are as long. Assumes nothing.
use Rattle.std.proofs.Common.{◌≡◌, length}
use Rattle.sums.specs.Folds.{sum_letter_f}
use Rattle.fused.specs.Zeta.{clipped, sum_letter_w}
use Rattle.laws.specs.Loops.{ascend}
use Rattle.fused.proofs.zeta.Supersets.fold_zeta.Given as goal

abbrev pub invariant-loop-t : goal.invariant-loop-t
invariant-loop-t l =
    let s = l.self in
    record {
      nums : length l.num ≡ length l.initial.num;
      dens : length l.den ≡ length l.initial.den;
      num : l.num ≡ ascend (sum_letter_f s.leaves s.ways.now (clipped s.best.now) s.n s.add.now l.unseen) l.t l.initial.num;
      den : l.den ≡ ascend (sum_letter_w s.leaves s.ways.now s.n s.add.now l.unseen) l.t l.initial.den;
    }

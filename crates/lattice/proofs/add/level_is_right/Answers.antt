-- `lattice::add::level_is_right` meets its contract. The invariant: `wrong` is 0 exactly where the entries of the letters below k agree with the walk down, at which `cur` stands. Assumes nothing.
use Rattle.std.proofs.Common.{ℕ, suc, length, get_or, replicate, sym, add-one, arith}
use Rattle.lattice.specs.AddRows.{lowered, lowered_zero}
use Rattle.lattice.proofs.AddStores.{Lower, level_lower, noted_none, gathered}
use Rattle.lattice.proofs.add.level_is_right.Goals.{After-choose-cur}
use Rattle.lattice.proofs.add.level_is_right.Goals as goal

pub loop-k-init : goal.loop-k-init
loop-k-init c = record { stands = sym (lowered_zero _ _); agrees = noted_none _ }

-- one letter of the row
lower_at : (c : goal.After-choose-cur) → Lower c.args.above (replicate (length c.args.row.now) c.args.v) c.loop-k.k c.loop-k.cur c.choose-cur.result
lower_at c =
    let at = c.loop-k in
    let a = c.args in
    level_lower a.above (length a.row.now) a.v c.requires at.k (omega arith) at.cur c.choose-cur.result at.invariant.stands c.choose-cur.ensures

pub overflow_cast-wrong : goal.overflow_cast-wrong
overflow_cast-wrong c = omega (arith, (lower_at (goal.at.overflow_cast-wrong c).After-choose-cur).fits)

pub loop-k-preserved : goal.loop-k-preserved
loop-k-preserved c =
    let a = c.args in
    let at = c.loop-k in
    let l = lower_at (goal.at.loop-k-preserved c).After-choose-cur in
    let want : ℕ → ℕ = λ j. lowered a.above (replicate (length a.row.now) a.v) (suc j) in
    record {
      stands = rw add-one l.next;
      agrees = rw l.next (gathered (λ j. get_or a.row.now j 0) want at.k at.wrong at.invariant.agrees);
    }

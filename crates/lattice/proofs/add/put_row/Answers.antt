-- `lattice::add::put_row` meets its contract. The invariant: the entries before the row are those at entry, and those of the letters below k are of the walk down, at which `cur` stands. Assumes nothing.
use Rattle.std.proofs.Common.{◌≡◌, ℕ, suc, ◌+◌, ◌-◌, length, sym, refl, ◌∙◌, add-one, arith, length-set}
use Rattle.lattice.specs.AddRows.{lowered, lowered_zero}
use Rattle.lattice.proofs.AddStores.{kept_more, stored_more, Lower, lower}
use Rattle.lattice.proofs.add.put_row.Goals.{After-choose-cur}
use Rattle.lattice.proofs.add.put_row.Goals as goal

pub loop-k-init : goal.loop-k-init
loop-k-init c = record { size = refl; stands = sym (lowered_zero _ _); kept = λ p h. refl; stored = λ p lo hi. omega arith }

-- one letter of the row
lower_at : (c : goal.After-choose-cur) → Lower c.args.above c.args.rem.now c.loop-k.k c.loop-k.cur c.choose-cur.result
lower_at c =
    let at = c.loop-k in
    lower c.args.above c.args.rem.now (length c.args.rem.now) at.k at.cur c.choose-cur.result c.requires.row refl (omega arith) at.invariant.stands c.choose-cur.ensures

pub overflow_cast-add : goal.overflow_cast-add
overflow_cast-add c = omega (arith, (lower_at c).fits)

pub loop-k-preserved : goal.loop-k-preserved
loop-k-preserved c =
    let a = c.args in
    let at = c.loop-k in
    let l = lower_at c in
    let q : ℕ → ℕ = λ p. lowered a.above a.rem.now (suc (p - a.at)) in
    let e : a.at + at.k - a.at ≡ at.k = omega arith in
    record {
      size = length-set at.add (a.at + at.k) (at.cur - c.choose-cur.result) ∙ at.invariant.size;
      stands = rw add-one l.next;
      kept = kept_more a.at (a.at + at.k) (at.cur - c.choose-cur.result) a.add.now at.add (omega arith) at.invariant.kept;
      stored = λ p lo hi. stored_more a.at (a.at + at.k) (at.cur - c.choose-cur.result) q at.add (omega (arith, c.requires.room, at.invariant.size)) (rw e l.next) at.invariant.stored p lo (omega arith);
    }

-- `lattice::add::Walk::new` meets its contract. The first n of 64 zeros are the tails of the empty tally. Assumes nothing.
use Rattle.std.proofs.Common.{sym, subst, zero-le}
use Rattle.lattice.specs.Tally.{tally_at}
use Rattle.lattice.specs.Served.{facts}
use Rattle.lattice.specs.AddRows.{Tails, Level}
use Rattle.lattice.proofs.Counts.{take_zeros}
use Rattle.lattice.proofs.AddWalk.{walk_start, last_none, level_none}
use Rattle.lattice.proofs.add.Walk.new.Goals as goal

pub invariant_of-result : goal.invariant_of-result
invariant_of-result c =
    let n = c.args.sizes.n in
    let r = c.args.sizes.r in
    let sizes = facts n r c.args.sizes.is_served in
    let zeros = sym (take_zeros n 64 sizes.letters) in
    record {
      served = sizes;
      inside = zero-le;
      tails_of = subst (Tails (tally_at n r 0)) zeros (walk_start n r sizes);
      last_of = rw zeros at (last_none n sizes.some_letter);
      some_new = sizes.some_letter;
      level = subst (Level 0) zeros (level_none n);
    }

-- The tests go in the order of the numbers. Assumes nothing.
use Rattle.std.proofs.Common.{◌≡◌, refl, arith}
use mathlib.Core.Bool.{false≢true}
use Rattle.binomials.specs.Binomial.{binomial}
use Rattle.lattice.specs.Tally.{total}
use Rattle.sums.specs.Limit.{limit_beyond}
use Rattle.sums.specs.Weight.{Clear}
use Rattle.table_sums.specs.Table.{entries, limits}
use Rattle.table_sums.specs.Calls.{served_so, refused, dealt_apportioned, beyond_least, own_sized, own_apportioned}
use Rattle.table_sums.proofs.apportion_sized.Goals.{Else-not-all_clear-2, In-Some, then-not-all_clear-via-then-not-all_clear, then-not-all_clear-via-else-not-all_clear+then-not-all_clear-2}
use Rattle.table_sums.proofs.apportion_sized.Goals as goal

-- the sums are clear
clears : (c : goal.Else-not-all_clear-2) → Clear c.args.num.now × Clear c.args.den.now
clears c = (c.if-not-all_clear.ensures.0 refl, c.if-not-all_clear-2.ensures.0 refl)

-- the number of hands
hands_are : (c : goal.In-Some) → c.in-Some.hands ≡ binomial (total c.args.unseen.now) c.args.sizes.r
hands_are c = rw c.tiles_in.ensures at c.in-Some.ensures.1

pub returns-in_default : goal.returns-in_default
returns-in_default c =
    refused
    (limits c.args.sizes.is_served c.requires (clears (goal.at.returns-in_default c).Else-not-all_clear-2)
    (beyond_least (limit_beyond (omega arith) (rw c.tiles_in.ensures at c.in_default.ensures))))
    (λ e. omega arith)

pub apportion_dealt-requires : goal.apportion_dealt-requires
apportion_dealt-requires c =
    let clear = clears (goal.at.apportion_dealt-requires c).Else-not-all_clear-2 in
    let hands = hands_are (goal.at.apportion_dealt-requires c).In-Some in
    record {
      letters = c.requires.letters;
      lengths = own_sized c.requires;
      nums = clear.0;
      dens = clear.1;
      weight = hands;
      small = rw (← hands) (c.if-not-within_limit.ensures.0 refl);
    }

pub returns : goal.returns
returns c =
    let clear = clears (goal.at.returns c).Else-not-all_clear-2 in
    own_apportioned c.requires.letters (dealt_apportioned (served_so c.args.sizes c.args.unseen.now c.requires.letters) (own_sized c.requires) clear.0 clear.1 c.apportion_dealt.ensures)

pub returns-then-not-within_limit : goal.returns-then-not-within_limit
returns-then-not-within_limit c =
    refused
    (limits c.args.sizes.is_served c.requires (clears (goal.at.returns-then-not-within_limit c).Else-not-all_clear-2)
    (beyond_least (λ h. false≢true (c.if-not-within_limit.ensures.1 (rw (hands_are (goal.at.returns-then-not-within_limit c).In-Some) h)))))
    (λ e. omega arith)

pub returns-then-not-all_clear : goal.returns-then-not-all_clear
returns-then-not-all_clear c =
    refused (entries c.args.sizes.is_served c.requires (λ h. elim c.then-not-all_clear.branch [
      | then-not-all_clear-via-then-not-all_clear w ↦ false≢true (w.if-not-all_clear.ensures.1 h.0)
      | then-not-all_clear-via-else-not-all_clear+then-not-all_clear-2 w ↦ false≢true (w.if-not-all_clear-2.ensures.1 h.1)
    ])) (λ e. omega arith)

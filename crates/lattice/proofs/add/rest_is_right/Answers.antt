-- `lattice::add::rest_is_right` meets its contract. Entries that go down by one each where there are no tiles, and the walk down over tails that are all the same elsewhere. Assumes nothing.
use Rattle.std.proofs.Common.{◌≡◌, ℕ, List, length, get_or, replicate, sym, subst, arith}
use Rattle.lattice.specs.AddRows.{Row, RowRight, Decides}
use Rattle.lattice.proofs.AddClose.{level_list, Bare, bare}
use Rattle.lattice.proofs.add.rest_is_right.Goals.{Start}
use Rattle.lattice.proofs.add.rest_is_right.Goals as goal

known : (c : goal.Start) → get_or c.args.rem.now 0 0 ≡ 0 → Bare c.args.above c.args.rem.now c.args.row.now
known c none = bare _ _ _ none c.requires.row c.requires.size c.requires.some c.requires.level

tails : (c : goal.Start) → replicate (length c.args.row.now) (get_or c.args.rem.now 0 0) ≡ c.args.rem.now
tails c = level_list c.args.rem.now (length c.args.row.now) c.requires.size c.requires.level

pub overflow_sub-above : goal.overflow_sub-above
overflow_sub-above c = omega (arith, (known (goal.at.overflow_sub-above c).Start c.if-v-eq0.true).room)

pub overflow_cast-above : goal.overflow_cast-above
overflow_cast-above c = omega (arith, (known (goal.at.overflow_cast-above c).Start c.if-v-eq0.true).fits)

pub descends-requires : goal.descends-requires
descends-requires c = omega (arith, (known (goal.at.descends-requires c).Start c.if-v-eq0.true).room, c.requires.size)

pub returns-then-v-eq0 : goal.returns-then-v-eq0
returns-then-v-eq0 c = (known (goal.at.returns-then-v-eq0 c).Start c.if-v-eq0.true).decides _ c.descends.ensures

pub level_is_right-requires : goal.level_is_right-requires
level_is_right-requires c =
    subst (Row c.args.above) (sym (tails (goal.at.level_is_right-requires c).Start)) c.requires.row

pub returns : goal.returns
returns c =
    subst (λ (rem : List ℕ). Decides c.level_is_right.result (RowRight c.args.above rem c.args.row.now)) (tails (goal.at.returns c).Start) c.level_is_right.ensures

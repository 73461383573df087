-- the tails say where the one play is, or that a letter leaves none
use Rattle.std.proofs.Common.{List, ◌+◌, ◌-◌, ◌<◌, arith, ℤ, length, get_or}
use mir.Syntax.{w32}
use mir.ValLaws.{to_z-of_z}
use Rattle.maxima.specs.Maxima.{raise}
use Rattle.blanks.specs.Raise.{Raised}
use Rattle.blanks.specs.Tails.{Tails, real_raised, real_none}
use Rattle.blanks.specs.Standing.{Plays}
use Rattle.blanks.proofs.walk.Placed.all_real.Goals.{Start, Then-place-self}
use Rattle.blanks.proofs.walk.Placed.all_real.Goals as goal

-- the tails are made for as many blanks as there are
module _ (c : goal.Start) where
  made : Tails c.args.self.now.letters.now c.args.self.now.unseen.now (length c.args.self.now.tally.now) (length c.args.self.now.letters.now - c.args.place.blanks) c.args.self.now.tails.now c.args.self.now.free
  made = rw c.requires.blanks c.args.self.now.tails_right

-- the one play
module _ (c : goal.Then-place-self) where
  one : (get_or c.args.self.now.heads.now c.args.place.blanks 0 + (c.args.place.rank + get_or c.args.self.now.tails.now c.args.place.tiles 0) < length c.args.sheet.now)
      × ((s : List ℤ) → Raised s (Plays c.args.self.now c.args.place 0 c.args.v) (raise s (get_or c.args.self.now.heads.now c.args.place.blanks 0 + (c.args.place.rank + get_or c.args.self.now.tails.now c.args.place.tiles 0)) c.args.v))
  one = real_raised c.requires.ready (made (goal.at.Then-place-self c).Start) c.args.self.now.heads_right (omega (arith, c.requires.blanks)) c.if-place-self.true

pub overflow_add-place : goal.overflow_add-place
overflow_add-place c = omega (arith, (one (goal.at.overflow_add-place c).Then-place-self).0, c.well_formed)

pub raise_at-requires : goal.raise_at-requires
raise_at-requires c =
    let r = c.requires.ready in
    let t = r.tiles in
    record { few = omega (arith, r.board.few); inside = (one (goal.at.raise_at-requires c).Then-place-self).0 }

pub returns-then-place-self : goal.returns-then-place-self
returns-then-place-self c =
    rw (c.raise_at.ensures, to_z-of_z w32 c.args.v c.ranges.v) ((one (goal.at.returns-then-place-self c).Then-place-self).1 c.args.sheet.now)

pub returns-else-place-self : goal.returns-else-place-self
returns-else-place-self c = real_none c.requires.ready (made (goal.at.returns-else-place-self c).Start) c.if-place-self.false c.args.sheet.now

-- What a walk over placed tiles is given, and what it finds, by its two structs. Assumes nothing.
use Rattle.std.specs.Prelude.{ℕ, ℤ}
use Rattle.blanks.specs.Ready.{Ready, Finds, TurnAt}
use Rattle.blanks.specs.declared.walk.Placed.{Placed}
use Rattle.blanks.specs.declared.walk.Place.{Place}

-- a walk has come to a place, with a play worth v, over a sheet of so many cells
abbrev pub Stands : ℕ → Placed → Place → ℤ → Type 0
Stands cells p at v = Ready cells p.letters.now p.drops.now p.unseen.now p.tally.now at.letters at.tiles at.blanks at.real at.rank v

-- the plays from there on, of at most so many blanks more
abbrev pub Plays : Placed → Place → ℕ → ℤ → ℕ → ℤ → Type 0
Plays p at left v = Finds p.letters.now p.drops.now p.unseen.now at.letters at.tiles left at.blanks at.real at.rank v

-- of these, the plays that have b blanks among the tiles of the last letter, which begin at s
abbrev pub TurnOf : Placed → Place → ℕ → ℕ → ℤ → ℕ → ℕ → ℤ → Type 0
TurnOf p at s left v b = TurnAt p.letters.now p.drops.now p.unseen.now at.letters at.tiles s left at.blanks at.real at.rank v b

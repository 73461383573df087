-- What a play's walk is given, and what it offers, by the play's struct. Assumes nothing.
use Rattle.std.specs.Prelude.{ℕ, List, length}
use Rattle.scatter.specs.declared.play.Play.{Play}
use Rattle.scatter.specs.Raise.{Offer}
use Rattle.scatter.specs.Offsets.{offers_at}
use Rattle.scatter.specs.Ready.{Ready}

-- at letter t, with s tiles to be kept from it on, over a table of so many racks
abbrev pub Stands : ℕ → Play → ℕ → ℕ → ℕ → ℕ → Type 0
Stands racks p t s k r = Ready (length p.leave.now) racks p.keep p.tally.now t s k r

-- what is offered from there on
abbrev pub offers : Play → ℕ → ℕ → ℕ → ℕ → List Offer
offers p k r t s = offers_at p.worth p.leave.now p.tally.now p.caps.now k r t s

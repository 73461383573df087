-- `blanks::walk::one_left` meets its contract. The loop's invariant: what the walk is given of the letters that are left, and that their plays are all that the sheet
-- lacks. The measure is the number of letters left. Assumes nothing.
use mathlib.Core.Path.{◌≡◌}
use mathlib.Core.List.{List}
use Prim.Native.Nat.{ℕ}
use lib.IntN.{ℤ}
use lib.ListN.{length, take}
use Rattle.runs.specs.Runs.{present}
use Rattle.blanks.specs.Raise.{Raised}
use Rattle.blanks.specs.Ready.{Ready, Finds}
use Rattle.blanks.proofs.walk.Placed.one_left.Given as goal

-- the letters up to `end` are left, and whatever raises the sheet for them raises the first for all
pub record Going (cells : ℕ) (sheet₀ : List ℤ) (ls : List ℕ) (ds : List ℤ) (unseen tally : List ℕ) (i last k after w : ℕ) (v : ℤ) (sheet : List ℤ) (left : List ℕ) (end word tiles real rank : ℕ) : Type 0 where
  pub ready : Ready cells ls ds unseen tally end tiles k real rank v
  pub same : left ≡ tally
  pub letters : word ≡ present (take end tally)
  pub size : length sheet ≡ cells
  pub rest : (s : List ℤ) → Raised sheet (Finds ls ds unseen end tiles 1 k real rank v) s → Raised sheet₀ (Finds ls ds unseen i last 1 k after w v) s

abbrev pub invariant-loop-last : goal.invariant-loop-last
invariant-loop-last l =
    Going (length l.initial.sheet) l.initial.sheet l.self.letters.now l.self.drops.now l.self.unseen.now l.self.tally.now l.place.letters l.place.tiles l.place.blanks l.place.real l.place.rank l.v l.sheet l.runs.0.now l.runs.1.0 l.runs.1.1.0 l.tiles l.real l.rank

abbrev pub decreases-loop-last : goal.decreases-loop-last
decreases-loop-last l = l.runs.1.0

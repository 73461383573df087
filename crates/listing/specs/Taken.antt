-- What is taken of a text: the whole numbers so far, and at its end what it says.
use Rattle.std.specs.Prelude.{◌≡◌, ℕ, List, [], ◌∷◌, ◌++◌, map, ℤ, pos, Result, Ok, Err, OnOk, IfErr}
use Rattle.refusal.specs.declared.Refusal.{Refusal}
use Rattle.text.specs.declared.reader.Reader.TheVariants.{Between}
use Rattle.text.specs.Scan.{scan, given as handed_by}
use Rattle.listing.specs.declared.form.Form.{Form}
use Rattle.listing.specs.declared.form.Given.{Given}
use Rattle.listing.specs.declared.form.Taken.{Taken}
use Rattle.listing.specs.declared.form.Taken.TheVariants.{Nothing, Letters, Sizes}
use Rattle.listing.specs.declared.session.Session.{Session}
use Rattle.listing.specs.Slots.{items_of}
use Rattle.listing.specs.Reading.{Body, Reading, refusal, given, IsRefused}

-- the numbers of a form, in the order of the text
unfoldable pub form_numbers : Form → List ℤ
form_numbers f = pos f.n ∷ pos f.r ∷ (map pos (items_of f.pool) ++ items_of f.entries)

-- the numbers that were taken, in the order of the text
unfoldable pub numbers_of : Taken → List ℤ
numbers_of Nothing = []
numbers_of (Letters n) = pos n ∷ []
numbers_of (Sizes f) = form_numbers f

-- what follows the sizes
abbrev pub body_of : Given → Body
body_of g = record { pool = items_of g.form.pool; entries = items_of g.form.entries }

-- what a text gives, as a reading
abbrev pub reading_as : Result Given Refusal → Reading
reading_as (Ok g) = given g.form.n g.form.r (body_of g)
reading_as (Err e) = refusal e

-- after a text that may still be accepted: the reader's state, and the numbers that the reader gave, each of which was taken
pub record Accepting (text : List ℕ) (s : Session) : Type 0 where
  pub state : s.reader ≡ scan Between text
  pub numbers : handed_by Between text ≡ map Ok (numbers_of s.taken)

-- after a text: what was taken of it, while it may still be accepted; else that it is refused whatever follows, with the refusal that is kept
pub record SoFar (text : List ℕ) (s : Session) : Type 0 where
  pub accepting : OnOk s.standing (Accepting text s)
  pub refused : IfErr s.standing (IsRefused text)

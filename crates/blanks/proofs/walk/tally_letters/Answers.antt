-- `blanks::walk::tally_letters` meets its contract. The loop's invariant: the tally is that of the tiles so far, and the word is the tally's. Assumes nothing.
use mathlib.Core.Path.{◌≡◌, sym, ap, ◌∙◌}
use Prim.Native.Nat.{ℕ, suc, ◌+◌, ◌-◌, ◌<◌}
use native.Mathlib.Omega.{arith}
use lib.ListN.{length, get_or}
use Rattle.laws.specs.Lists.{get_or_replicate}
use Rattle.runs.specs.Runs.{present}
use Rattle.blanks.specs.Tallied.{present_more, present_room, present_zeros, Tallying, tallying_none, tallying_room, tallying_small, tallying_more}
use Rattle.blanks.proofs.walk.tally_letters.Goals.{After-from-l}
use Rattle.blanks.proofs.walk.tally_letters.Goals as goal

pub loop-letter-init : goal.loop-letter-init
loop-letter-init c =
    let t = c.args.tally.now in
    (tallying_none c.args.letters.now t (λ l h. ap (λ xs. get_or xs l 0) c.requires.clear ∙ get_or_replicate (length t) l 0), sym (ap present c.requires.clear ∙ present_zeros (length t)))

-- what is known of a turn's tile
module _ (c : goal.After-from-l) where
  abbrev at : ℕ
  at = c.loop-letter.letter-index

  inside : at < length c.args.letters.now
  inside = c.loop-letter-test.true

  some : 0 < c.from-l.result
  some = let e = c.from-l.ensures in let h = (c.requires.real at inside).0 in omega arith

  letter : get_or c.args.letters.now at 0 ≡ suc (c.from-l.result - 1)
  letter = let e = c.from-l.ensures in let h = some in omega arith

  low : c.from-l.result - 1 < length c.args.tally.now
  low = let e = c.from-l.ensures in let h = c.requires.real at inside in omega (arith, h.0, h.1)

  tallied : Tallying c.args.letters.now (length c.args.tally.now) at c.loop-letter.tally
  tallied = c.loop-letter.invariant.0

  room : c.from-l.result - 1 < length c.loop-letter.tally
  room = tallying_room tallied inside letter low

  after : length c.loop-letter.tally - c.from-l.result + suc (c.from-l.result - 1) ≡ length c.loop-letter.tally
  after = let h = room in let s = some in omega arith

pub with_letter-word-requires : goal.with_letter-word-requires
with_letter-word-requires c =
    let w = c.requires.letters in
    let l = (tallied (goal.at.with_letter-word-requires c).After-from-l).letters in
    record { bit = omega (arith, room (goal.at.with_letter-word-requires c).After-from-l, some (goal.at.with_letter-word-requires c).After-from-l); fits = rw c.loop-letter.invariant.1 (present_room _ _ _ (after (goal.at.with_letter-word-requires c).After-from-l) (omega arith)) }

pub overflow_add-tally : goal.overflow_add-tally
overflow_add-tally c =
    let f = c.requires.few in
    omega (arith, tallying_small (tallied (goal.at.overflow_add-tally c).After-from-l) (inside (goal.at.overflow_add-tally c).After-from-l) (letter (goal.at.overflow_add-tally c).After-from-l) (low (goal.at.overflow_add-tally c).After-from-l))

pub loop-letter-preserved : goal.loop-letter-preserved
loop-letter-preserved c =
    let at = c.loop-letter in
    (tallying_more (tallied (goal.at.loop-letter-preserved c).After-from-l) (inside (goal.at.loop-letter-preserved c).After-from-l) (letter (goal.at.loop-letter-preserved c).After-from-l) (low (goal.at.loop-letter-preserved c).After-from-l), omega (arith, c.with_letter-word.ensures, at.invariant.1, present_more at.tally (c.from-l.result - 1) _ (after (goal.at.loop-letter-preserved c).After-from-l)))

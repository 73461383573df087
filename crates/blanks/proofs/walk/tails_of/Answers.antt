-- `blanks::walk::tails_of` meets its contract. The loop's invariant: the tails of the runs before s are made. The measure is how many tiles that can be real are
-- left. Assumes nothing.
use mathlib.Core.Path.{◌≡◌, sym, ap, ◌∙◌}
use Prim.Native.Nat.{ℕ, suc, ◌+◌, ◌-◌, ◌≤◌, ◌<◌}
use native.Mathlib.Omega.{arith}
use lib.ListN.{length, get_or}
use Rattle.blanks.specs.Tails.{Tailing, tailing_none, tailing_below, tailing_more, tails_high, tails_forced, run_some}
use Rattle.blanks.proofs.walk.tails_of.Goals.{After-from-count, After-from-l, then-real-end-via-then-real-end, then-real-end-via-else-real-end+then-from-count}
use Rattle.blanks.proofs.walk.tails_of.Goals as goal

pub loop-s-init : goal.loop-s-init
loop-s-init c =
    let p = c.requires in
    tailing_none p.board p.letters p.tally p.real _ (ap length p.clear) (ap (λ t. get_or t 0 0) p.clear)

-- a turn's letter
module _ (c : goal.After-from-l) where
  abbrev at : ℕ
  at = c.loop-s.s

  inside : at < length c.args.letters.now
  inside = let h = c.loop-s-test.true in let l = c.requires.real in omega arith

  some : suc (c.from-l.result - 1) ≡ c.from-l.result
  some = let e = c.from-l.ensures in let h = (c.requires.board.real at inside).0 in omega arith

  letter : get_or c.args.letters.now at 0 ≡ suc (c.from-l.result - 1)
  letter = sym c.from-l.ensures ∙ sym some

-- and its tiles
module _ (c : goal.After-from-count) where
  abbrev here : Tailing c.args.letters.now c.args.unseen.now (length c.args.tally.now) c.args.real c.loop-s.tails (at (goal.at.After-from-count c).After-from-l) c.loop-s.rank
  here = c.loop-s.invariant

  below : at (goal.at.After-from-count c).After-from-l < c.args.real
  below = c.loop-s-test.true

  grows : at (goal.at.After-from-count c).After-from-l < at (goal.at.After-from-count c).After-from-l + c.from-count.result
  grows = let p = c.requires in run_some p.board p.letters p.tally p.real here below (letter (goal.at.After-from-count c).After-from-l) c.from-count.ensures

  few : c.args.real ≤ 15
  few = let l = c.requires.real in omega (arith, c.requires.board.few)

pub returns-then-real-end : goal.returns-then-real-end
returns-then-real-end c =
    let p = c.requires in
    let run = (goal.at.returns-then-real-end c).After-from-count in
    let turn = (goal.at.returns-then-real-end c).After-from-l in
    elim c.then-real-end.branch [
      | then-real-end-via-then-real-end w ↦ tails_high p.board p.letters p.tally p.real (here run) (below run) (letter turn) c.from-count.ensures w.if-real-end.true
      | then-real-end-via-else-real-end+then-from-count w ↦ tails_forced p.board p.letters p.tally p.real (here run) (below run) (letter turn) c.from-count.ensures (rw (some turn, ← w.from.ensures) w.if-from-count.true)
    ]

pub past-rank-requires : goal.past-rank-requires
past-rank-requires c =
    let p = c.requires in
    let w = p.letters in
    let n = p.board.letters in
    let h = c.if-real-end.false in
    record { letters = omega arith; tiles = omega (arith, few (goal.at.past-rank-requires c).After-from-count); fits = omega (arith, rw (some (goal.at.past-rank-requires c).After-from-l) at (tailing_below p.board p.letters p.tally p.real (here (goal.at.past-rank-requires c).After-from-count) (below (goal.at.past-rank-requires c).After-from-count) (letter (goal.at.past-rank-requires c).After-from-l) c.from-count.ensures h)) }

pub loop-s-smaller : goal.loop-s-smaller
loop-s-smaller c = omega (arith, grows (goal.at.loop-s-smaller c).After-from-count, c.if-real-end.false)

pub loop-s-preserved : goal.loop-s-preserved
loop-s-preserved c =
    let e = some (goal.at.loop-s-preserved c).After-from-l in
    let p = c.requires in
    tailing_more p.board p.letters p.tally p.real (here (goal.at.loop-s-preserved c).After-from-count) (below (goal.at.loop-s-preserved c).After-from-count) (letter (goal.at.loop-s-preserved c).After-from-l) c.from-count.ensures c.if-real-end.false
    (rw (e, ← c.from.ensures) c.if-from-count.false)
    (rw e c.past-rank.ensures)

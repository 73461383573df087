-- The tiles from i on are letters, and counted. Assumes nothing.
use Rattle.std.proofs.Common.{◌≡◌, ℕ, ◌-◌, ◌<◌, ◌≤◌, List, length, get_or, drop, sym, refl, ap, ◌∙◌, arith, length-drop}
use lib.Seq.{drop-length}
use Rattle.lattice.specs.Tally.{total}
use Rattle.lattice.specs.Tiles.{tally_of_nil, letters_below_nil}
use Rattle.lattice.proofs.Counts.{below_not, below_step, tally_step, length_tally_of, total_tally_of, get_or_le_total}
use Rattle.lattice.proofs.count_tiles.Goals.{In-loop-i, After-loop-i}
use Rattle.lattice.proofs.count_tiles.Goals as goal

pub loop-i-init : goal.loop-i-init
loop-i-init c = (rw drop-length (letters_below_nil _), c.requires.clear ∙ sym (rw drop-length (tally_of_nil _)))

-- the tally has a place for each letter, and its counts are small
places : (c : goal.In-loop-i) → length c.loop-i.tally ≡ length c.args.tally.now
places c = ap length c.loop-i.invariant.1 ∙ length_tally_of _ _

small : (c : goal.In-loop-i) (x : ℕ) → get_or c.loop-i.tally x 0 ≤ 15
small c x =
    let l = c.loop-i in
    let t = ap total l.invariant.1 ∙ total_tally_of (length c.args.tally.now) (drop l.i c.args.tiles.now) l.invariant.0 in
    omega (arith, t, get_or_le_total l.tally x, length-drop l.i c.args.tiles.now, c.requires.few)

pub returns-then-tally-letter-clause-length : goal.returns-then-tally-letter-clause-length
returns-then-tally-letter-clause-length c = places (goal.at.returns-then-tally-letter-clause-length c).In-loop-i

pub returns-then-tally-letter-clause-counts : goal.returns-then-tally-letter-clause-counts
returns-then-tally-letter-clause-counts c =
    (refl, below_not (length c.args.tally.now) c.args.tiles.now (c.loop-i.i - 1) (omega arith) (omega (arith, c.if-tally-letter.true, c.from-letter.ensures, places (goal.at.returns-then-tally-letter-clause-counts c).In-loop-i)))

pub overflow_add-tally : goal.overflow_add-tally
overflow_add-tally c = omega (arith, small (goal.at.overflow_add-tally c).In-loop-i c.from-letter.result)

pub loop-i-preserved : goal.loop-i-preserved
loop-i-preserved c =
    let l = c.loop-i in
    let n : ℕ = length c.args.tally.now in
    let tiles : List ℕ = c.args.tiles.now in
    let letter : get_or tiles (l.i - 1) 0 < n = omega (arith, c.if-tally-letter.false, c.from-letter.ensures, places (goal.at.loop-i-preserved c).In-loop-i) in (
      below_step n tiles (l.i - 1) l.i (omega arith) (omega arith) letter l.invariant.0,
      rw (l.invariant.1, c.from-letter.ensures) (sym (tally_step n tiles (l.i - 1) l.i (omega arith) (omega arith))),
    )

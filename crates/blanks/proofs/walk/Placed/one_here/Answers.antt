-- `blanks::walk::one_here` meets its contract: the turn of the letter with one blank, after which all tiles are real. Assumes nothing.
use mathlib.Core.Path.{◌≡◌, sym}
use Prim.Native.Nat.{◌+◌, ◌-◌, ◌≤◌}
use native.Mathlib.Nat.{add-zero}
use native.Mathlib.Omega.{arith}
use lib.ListN.{get_or}
use mir.Syntax.{w32}
use mir.ValLaws.{to_z-of_z}
use Rattle.blanks.specs.Ready.{less, less_zero, less_next, run_fits, room, more_below, next_ready, turn_done}
use Rattle.blanks.proofs.walk.Placed.one_here.Goals.{After-lower-u, Start}
use Rattle.blanks.proofs.walk.Placed.one_here.Goals as goal

-- the letter's tiles
module _ (c : goal.Start) where
  begins : c.args.place.tiles - c.args.count ≡ c.args.place.tiles - get_or c.args.self.now.tally.now (c.args.place.letters - 1) 0
  begins = let e = c.requires.count in omega arith

  inside : c.args.count ≤ c.args.place.tiles
  inside = let e = c.requires.count in omega (arith, run_fits c.requires.ready c.requires.letter begins)

  most : 1 ≤ c.args.place.tiles - (c.args.place.tiles - c.args.count)
  most = let h = inside in let g = c.requires.some in omega arith

  real : c.args.place.tiles - (c.args.place.tiles - c.args.count) - 1 ≤ get_or c.args.self.now.unseen.now c.args.place.letters 0
  real = let h = inside in let g = c.requires.fits in omega arith

  reals : c.args.count - 1 ≡ c.args.place.tiles - (c.args.place.tiles - c.args.count) - 1
  reals = let h = inside in omega arith

  reals_fit : c.args.count - 1 ≤ c.args.place.tiles - (c.args.place.tiles - c.args.count)
  reals_fit = let h = inside in omega arith

  space : c.args.place.real + (c.args.count - 1) ≤ 15
  space = room c.requires.ready c.requires.letter begins _ reals_fit

pub overflow_sub-s : goal.overflow_sub-s
overflow_sub-s c = inside (goal.at.overflow_sub-s c).Start

pub past-y-requires : goal.past-y-requires
past-y-requires c =
    let r = c.requires.ready in
    let w = r.width in
    let n = r.board.letters in
    record { letters = omega arith; tiles = space (goal.at.past-y-requires c).Start; fits = omega (arith, more_below r c.requires.letter (begins (goal.at.past-y-requires c).Start) _ (reals_fit (goal.at.past-y-requires c).Start), c.well_formed) }

pub overflow_add-next-2 : goal.overflow_add-next-2
overflow_add-next-2 c = omega (arith, space (goal.at.overflow_add-next-2 c).Start)

-- its value
worth : (c : goal.After-lower-u) → c.lower-u.result ≡ less c.args.v c.args.self.now.drops.now (c.args.place.tiles - c.args.count) 1
worth c =
    let h = inside (goal.at.After-lower-u c).Start in
    let g = c.requires.some in
    let v = c.args.v in
    let ds = c.args.self.now.drops.now in
    let at = c.args.place.tiles - c.args.count in
    let e = rw (to_z-of_z w32 c.args.v c.ranges.v) at (c.lower-u.ensures (omega arith)) in
    less_next v ds at 0 (sym (less_zero v ds at)) (rw add-zero e)

pub all_real-requires : goal.all_real-requires
all_real-requires c =
    let low = c.lower-u in
    record {
      ready =
          rw (to_z-of_z w32 low.result (record { sfits = low.type_inv }))
          (next_ready c.requires.ready c.requires.letter (begins (goal.at.all_real-requires c).Start) 1 (most (goal.at.all_real-requires c).Start) (omega arith) (real (goal.at.all_real-requires c).Start) (reals (goal.at.all_real-requires c).Start) c.past-y.ensures (worth (goal.at.all_real-requires c).After-lower-u));
      blanks = c.requires.blanks;
    }

pub returns : goal.returns
returns c =
    let low = c.lower-u in
    let e = to_z-of_z w32 low.result (record { sfits = low.type_inv }) in
    turn_done c.requires.ready c.requires.letter (begins (goal.at.returns c).Start) 1 (most (goal.at.returns c).Start) (omega arith) (real (goal.at.returns c).Start) (reals (goal.at.returns c).Start) c.past-y.ensures (worth (goal.at.returns c).After-lower-u) (rw e at c.all_real.ensures)

use Rattle.std.proofs.Common.{◌≤◌, length, refl, arith}
use Rattle.lattice.proofs.Filling.{letters_start, letters_next, letters_tile, letters_end, tile_left}
use Rattle.lattice.proofs.fill_few.Goals.{Else-over-ways}
use Rattle.lattice.proofs.fill_few.Goals as goal

pub loop-m-init : goal.loop-m-init
loop-m-init c =
    letters_start (length c.args.out.now) c.args.s c.args.rest c.args.out.now refl (omega arith) c.requires.inside

pub loop-m-preserved-then-over-ways : goal.loop-m-preserved-then-over-ways
loop-m-preserved-then-over-ways c =
    let l = c.loop-m in
    letters_next (length c.args.out.now) c.args.s c.args.rest l.out l.m l.left l.over l.count l.invariant (omega arith) (omega (arith, c.choose-ways.ensures))

-- a turn that takes a tile has one
turn : (c : goal.Else-over-ways) → 1 ≤ c.loop-m.left
turn c =
    let l = c.loop-m in
    tile_left l.m l.left l.over (omega (arith, c.choose-ways.ensures)) l.invariant.small

pub overflow_sub-left : goal.overflow_sub-left
overflow_sub-left c = turn c

pub loop-m-smaller : goal.loop-m-smaller
loop-m-smaller c = let h = turn c in omega arith

pub loop-m-preserved : goal.loop-m-preserved
loop-m-preserved c =
    let l = c.loop-m in
    rw c.choose-ways.ensures (letters_tile (length c.args.out.now) c.args.s c.args.rest l.out l.m l.left l.over l.count l.invariant (omega arith) (omega (arith, c.choose-ways.ensures)))

pub returns : goal.returns
returns c =
    let l = c.loop-m in
    let e = letters_end (length c.args.out.now) c.args.s c.args.rest l.out l.m l.left l.over l.count l.invariant (omega arith) in
    record { tiles = e.0; place = e.1 }

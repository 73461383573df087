-- `draws::walk::Walk::aggregate_last` meets its contract. Assumes nothing.
use native.Mathlib.Omega.{arith}
use lib.ListN.{length}
use Rattle.draws.specs.Walking.{tile_next, tiles_none}
use Rattle.draws.proofs.walk.Walk.aggregate_last.Goals as goal

pub loop-u-init : goal.loop-u-init
loop-u-init c =
    let a = c.args in
    (c.requires.2.letters, tiles_none (length a.self.now.pool.now) a.self.now.add.now a.self.now.pool.now a.leave.w a.leave.ridx _)

pub loop-u-preserved : goal.loop-u-preserved
loop-u-preserved c =
    let a = c.args in
    (omega arith, tile_next a.self.now.add.now a.self.now.pool.now a.leave.w a.leave.ridx (omega arith) (omega arith) c.loop-u.invariant.1 c.gain_tile-sums.ensures)

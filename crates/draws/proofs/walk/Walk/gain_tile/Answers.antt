-- `draws::walk::Walk::gain_tile` meets its contract. Assumes nothing.
use mathlib.Core.Path.{sym, ◌∙◌, subst}
use Prim.Native.Nat.{ℕ}
use lib.ListN.{length}
use Rattle.whole.proofs.Steps.{one_literal}
use Rattle.draws.specs.Walk.{met_tile, Gathered}
use Rattle.draws.specs.Walking.{tile_none, tile_some}
use Rattle.draws.proofs.walk.Walk.gain_tile.Goals as goal

pub returns-then-count-eq0 : goal.returns-then-count-eq0
returns-then-count-eq0 c =
    let a = c.args in
    tile_none (length a.self.now.pool.now) a.self.now.add.now a.u a.leave.w a.leave.ridx _ (sym c.held-count.ensures.same ∙ c.if-count-eq0.true)

pub returns : goal.returns
returns c =
    let a = c.args in
    let v = c.held-count in
    subst (λ (u : ℕ). Gathered a.self.now.full_v.now (met_tile (length a.self.now.pool.now) a.self.now.add.now a.u u a.leave.w a.leave.ridx) a.sums c.gain.result) v.ensures.same
    (tile_some (length a.self.now.pool.now) a.self.now.add.now a.u a.leave.w a.leave.ridx v.result c.if-count-eq0.false one_literal c.next_binomial.ensures c.raised.ensures c.gain.ensures)

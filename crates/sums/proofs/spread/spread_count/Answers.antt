use Rattle.std.proofs.Common.{◌≡◌, ℕ, ◌+◌, ◌≤◌, refl, sym, ap, ◌∙◌, zero-add, arith}
use Rattle.lattice.specs.Step.{step}
use Rattle.sums.proofs.Spreading.{last_tiles, ready_last, last_fits}
use Rattle.sums.proofs.spread.spread_count.Goals.{Start}
use Rattle.sums.proofs.spread.spread_count.Goals as goal

-- the last letter's tiles and one more are few
few : (c : goal.Start) → 1 + c.args.c ≤ 15
few c = last_tiles c.requires.spreads refl c.requires.inside

-- what is added to a place with nothing before it
placed : (k m c : ℕ) {s w : ℕ} → s ≡ k + c → w ≡ 0 + step m (k + c) c → w ≡ step m s c
placed k m c {s} {w} e f = f ∙ zero-add _ ∙ ap (λ (x : ℕ). step m x c) (sym e)

pub with-part-requires-clause-tiles : goal.with-part-requires-clause-tiles
with-part-requires-clause-tiles c = omega (arith, few (goal.at.with-part-requires-clause-tiles c).Start)

pub with-rack-requires-clause-tiles : goal.with-rack-requires-clause-tiles
with-rack-requires-clause-tiles c = omega (arith, few (goal.at.with-rack-requires-clause-tiles c).Start)

pub with-part-requires-clause-fits : goal.with-part-requires-clause-fits
with-part-requires-clause-fits c = omega (arith, last_fits c.requires.spreads refl c.requires.inside {s = 0 + c.args.c} (omega arith) (omega arith))

pub with-rack-requires-clause-fits : goal.with-rack-requires-clause-fits
with-rack-requires-clause-fits c = omega (arith, last_fits c.requires.spreads refl c.requires.inside {s = 1 + c.args.c} (omega arith) (omega arith))

pub add_at_parts-requires : goal.add_at_parts-requires
add_at_parts-requires c =
    let p = c.requires in
    record {
      part = ready_last p.spreads refl p.inside (omega (arith, c.with-part.ensures.tiles)) (omega (arith, c.with-part.ensures.tiles)) (placed _ _ _ c.with-part.ensures.tiles c.with-part.ensures.before);
      rack = ready_last p.spreads refl p.inside (omega (arith, c.with-rack.ensures.tiles)) (omega (arith, c.with-rack.ensures.tiles)) (placed _ _ _ c.with-rack.ensures.tiles c.with-rack.ensures.before);
    }

-- The walk that keeps all runs: one run more. Assumes nothing.
use Rattle.std.proofs.Common.{◌≡◌, ◌≤◌, ◌+◌, ◌-◌, ◌<◌, ℕ, ℤ, List, length, take, refl, arith}
use Rattle.laws.specs.Greatest.{GreatestBy}
use Rattle.lattice.specs.Tally.{total, total_nil}
use Rattle.lattice.specs.Step.{step}
use Rattle.runs.specs.Runs.{SplitsAt, present, none_present}
use Rattle.search.specs.declared.Kept.{Kept}
use Rattle.search.specs.Order.{KeptLe}
use Rattle.search.specs.Keep.{KeepReady, Keeps, split_below, room, keep_next, all_fits, all_low, all_next}
use Rattle.search.specs.KeepRuns.{keep_over, keep_back}

module _ {leave : List ℤ} {t : List ℕ} {i s w stop c : ℕ} {rest : List ℕ} {left : ℕ}
    (ready : KeepReady leave t i (total (take i t)) s w (total (take i t))) (run : SplitsAt t i stop c rest left) where
  back : KeepReady leave t stop (total (take i t)) s w (total (take i t))
  back = keep_back _ _ _ _ _ run.inside run.absent ready

  -- the tiles of the runs before
  fewer : total (take i t) - c ≡ total (take (stop - 1) t)
  fewer = omega (arith, split_below back run.some run.counted)

  fits : c ≤ total (take i t)
  fits = all_fits back run.some run.counted refl

  pub all_room : (s + c ≤ 15) × (w + step (length t - stop) (s + c) c < length leave)
  all_room = room back run.some run.counted fits

  module _ {s' w' : ℕ} (tiles : s' ≡ s + c) (before : w' ≡ w + step (length t - stop) (s + c) c) where
    pub all_size : {keep : ℕ} → s + total (take i t) ≡ keep → s' + total (take left t) ≡ keep
    all_size e = rw run.before (omega (arith, split_below back run.some run.counted, tiles, e))

    pub all_ready : KeepReady leave t left (total (take left t)) s' w' (total (take left t))
    all_ready =
        rw (run.before, tiles)
        (rw fewer at (keep_next back run.some run.counted (all_low back run.some run.counted refl) fits before))

    pub all_over : {b r : Kept} → GreatestBy KeptLe b (Keeps leave (length t) (take left t) (length t - left) s' w' (total (take left t))) r
        → GreatestBy KeptLe b (Keeps leave (length t) (take i t) (length t - i) s w (total (take i t))) r
    all_over g =
        keep_over _ _ _ _ _ run.inside ready.letters run.absent
        (all_next back run.some run.counted refl before (rw (run.before, tiles, ← fewer) at g))

-- at the end no tile is left
pub all_none : {leave : List ℤ} {t : List ℕ} {i s w : ℕ} → KeepReady leave t i (total (take i t)) s w (total (take i t)) → present (take i t) ≡ 0 → total (take i t) ≡ 0
all_none {leave} {t} {i} {s} {w} ready e =
    let z = keep_back leave t s w (total (take i t)) {j = 0} (omega arith) (none_present t i ready.letters e) ready in
    omega (arith, z.all, total_nil)

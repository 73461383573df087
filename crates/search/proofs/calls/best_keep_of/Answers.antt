use Rattle.std.proofs.Common.{ℕ, length, sym, refl, ap, ◌∙◌, arith, Err}
use Rattle.std.proofs.lemmas.Result.{err_from_is_err_and}
use Rattle.search.specs.BestKeep.{best_keep, keep_none}
use Rattle.search.specs.Refusals.{Sized, sized}
use Rattle.search.specs.Answers.{leave_given, keep_value}
use Rattle.search.proofs.Keeping.{sized_keep, keep_refused, keep_is, keep_given}
use Rattle.search.proofs.calls.best_keep_of.Goals.{In_ok-rack_sizes}
use Rattle.search.proofs.calls.best_keep_of.Goals as goal

pub returns-in_err-rack_sizes : goal.returns-in_err-rack_sizes
returns-in_err-rack_sizes c =
    let p = err_from_is_err_and c.from_residual.result c.from_residual.ensures.1 in
    keep_refused _ _ (p.1 ∙ ap Err p.2) c.in_err-rack_sizes.ensures.number

-- the sizes are accepted
sizes : (c : goal.In_ok-rack_sizes) → Sized c.args.lat.n c.args.lat.r (length c.args.leave.now) (length c.args.leave.now) c.args.tally.now
sizes c = sized _ _ _ _ _ (sym c.in_ok-rack_sizes.ensures.number)

pub tiles_of-tiles-requires : goal.tiles_of-tiles-requires
tiles_of-tiles-requires c = let s = sizes c in omega (arith, s.letters, s.sizes.letters)

pub returns-then-tiles-keep : goal.returns-then-tiles-keep
unfolding leave_given keep_value
returns-then-tiles-keep c =
    let a = c.args in
    let e = keep_none a.leave.now a.lat.n a.tally.now a.keep (omega (arith, c.tiles_of-tiles.ensures, c.if-tiles-keep.true)) in
    keep_is (sym c.in_ok-rack_sizes.ensures.number) e (rw (← e) refl)

pub best_keep-requires : goal.best_keep-requires
best_keep-requires c =
    sized_keep _ _ (sizes (goal.at.best_keep-requires c).In_ok-rack_sizes) c.tiles_of-tiles.ensures (omega (arith, c.if-tiles-keep.false))

pub returns : goal.returns
returns c =
    let a = c.args in
    let s = sizes (goal.at.returns c).In_ok-rack_sizes in
    let e = c.best_keep.ensures ∙ ap (λ (k : ℕ). leave_given (best_keep a.leave.now k a.tally.now a.keep)) s.letters in
    keep_is (sym c.in_ok-rack_sizes.ensures.number) (rw e (keep_given _ _ _ _ s)) e

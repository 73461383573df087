use Rattle.std.proofs.Common.{◌≡◌, length, cond, sym, refl, ap, ◌∙◌, Ok, Err, w32, to_z, of_z, rules}
use Rattle.std.proofs.lemmas.Result.{err_from_is_err_and}
use mir.ValLaws.{to_z-of_z}
use Rattle.search.specs.Answers.{Played}
use Rattle.search.specs.Refusals.{Sized, naive_sizes, naive_sized}
use Rattle.search.specs.declared.calls.Kind.TheVariants.{Word, Exchange}
use Rattle.search.proofs.Equity.{sized_held}
use Rattle.search.specs.NaiveWalk.{FoundFirst}
use Rattle.search.proofs.Moves.{sizes_refused, naive_refused, rest_ready, naive_moved}
use Rattle.search.proofs.calls.naive_best_equity.Goals.{In_ok-sizes, After-above_leave, In_ok-found}
use Rattle.search.proofs.calls.naive_best_equity.Goals as goal

pub returns-in_err-sizes : goal.returns-in_err-sizes
returns-in_err-sizes c =
    let p = err_from_is_err_and c.from_residual.result c.from_residual.ensures.1 in
    sizes_refused _ _ _ _ _ _ _ (p.1 ∙ ap Err p.2) c.in_err-sizes.ensures.number

-- after the sizes are accepted
none : (c : goal.In_ok-sizes) → naive_sizes c.args.lat.n c.args.lat.r (length c.args.sheet.now) (length c.args.leave.now) c.args.tally.now (length c.args.kept.now) ≡ 0
none c = sym c.in_ok-sizes.ensures.number

accepted : (c : goal.In_ok-sizes) → Sized c.args.lat.n c.args.lat.r (length c.args.sheet.now) (length c.args.leave.now) c.args.tally.now × (length c.args.kept.now ≡ c.args.lat.n)
accepted c = naive_sized _ _ _ _ _ _ (none c)

pub best_first-requires : goal.best_first-requires
best_first-requires c = sized_held _ _ _ (accepted c).0

pub write_kept-requires : goal.write_kept-requires
write_kept-requires c =
    let s = accepted (goal.at.write_kept-requires c).In_ok-sizes in
    s.1 ∙ sym s.0.letters

-- what is found
first : (c : goal.In_ok-found) → FoundFirst c.args.sheet.now c.args.leave.now (length c.args.tally.now) c.args.tally.now c.in_ok-found.found
first c = rw c.in_ok-found.ensures.ok_part at c.best_first.ensures

-- the value that is found, as it is read
same : (c : goal.In_ok-found) → to_z w32 (of_z w32 c.in_ok-found.found.value) ≡ c.in_ok-found.found.value
same c = to_z-of_z w32 c.in_ok-found.found.value (search rules)

pub above_leave-requires : goal.above_leave-requires
above_leave-requires c =
    rw c.in_ok-sizes.ensures.sizes.1
    (rest_ready _ _ _ _ _ _ (none (goal.at.above_leave-requires c).In_ok-sizes) (first (goal.at.above_leave-requires c).In_ok-found) c.write_kept.ensures)

-- the answer, by whether the best is above what is kept
above : (c : goal.After-above_leave) → Played c.args.lat.n c.args.lat.r c.args.sheet.now c.args.leave.now c.args.tally.now c.args.kept.now (Ok (record { best = c.in_ok-found.found.value; kind = cond c.above_leave.result Word Exchange })) c.write_kept.new.kept
above c =
    naive_moved _ _ _ _ _ _ (none (goal.at.After-above_leave c).In_ok-sizes) (first (goal.at.After-above_leave c).In_ok-found) c.write_kept.ensures (rw (same (goal.at.After-above_leave c).In_ok-found) at c.above_leave.ensures) refl

pub returns-then-above_leave : goal.returns-then-above_leave
returns-then-above_leave c =
    rw (same (goal.at.returns-then-above_leave c).In_ok-found) (rw c.if-above_leave.true at (above (goal.at.returns-then-above_leave c).After-above_leave))

pub returns-else-above_leave : goal.returns-else-above_leave
returns-else-above_leave c =
    rw (same (goal.at.returns-else-above_leave c).In_ok-found) (rw c.if-above_leave.false at (above (goal.at.returns-else-above_leave c).After-above_leave))

pub returns-in_err-found : goal.returns-in_err-found
returns-in_err-found c =
    let p = err_from_is_err_and c.from_residual-in_err-found.result c.from_residual-in_err-found.ensures.1 in
    rw (p.1, p.2) (naive_refused _ _ _ _ _ _ (none (goal.at.returns-in_err-found c).In_ok-sizes) _ c.best_first.ensures (sym c.in_err-found.was ∙ c.ok_or.ensures.value))

use Rattle.std.proofs.Common.{sym, arith}
use Rattle.std.proofs.lemmas.Result.{err_from_is_err_and}
use Rattle.lattice.specs.Served.{facts}
use Rattle.search.specs.Refusals.{number_1}
use Rattle.search.proofs.Sizes.{wrong_sheet, wrong_leave, wrong_tally, too_many, all_fit}
use Rattle.search.proofs.calls.rack_sizes.Goals.{then-sheet-sizes-via-then-sheet-sizes, then-sheet-sizes-via-else-sheet-sizes+then-leave-sizes, then-sheet-sizes-via-else-sheet-sizes+else-leave-sizes+then-tally-sizes}
use Rattle.search.proofs.calls.rack_sizes.Goals as goal

pub returns-in_err-sizes-clause-number : goal.returns-in_err-sizes-clause-number
returns-in_err-sizes-clause-number c =
    let p = err_from_is_err_and c.from_residual.result c.from_residual.ensures.1 in
    rw (p.1, p.2, c.in_err-sizes.ensures.0) (sym (number_1 _ _ _ _ _ c.in_err-sizes.ensures.1))

pub returns-then-sheet-sizes-clause-number : goal.returns-then-sheet-sizes-clause-number
returns-then-sheet-sizes-clause-number c =
    let s = c.in_ok-sizes.sizes in
    rw (← c.in_ok-sizes.ensures.0, ← c.in_ok-sizes.ensures.1)
    (elim c.then-sheet-sizes.branch [
      | then-sheet-sizes-via-then-sheet-sizes w ↦ sym (wrong_sheet _ _ _ _ _ s.is_served s.counts w.if-sheet-sizes.true)
      | then-sheet-sizes-via-else-sheet-sizes+then-leave-sizes w ↦ sym (wrong_leave _ _ _ _ _ s.is_served s.counts w.if-leave-sizes.true)
      | then-sheet-sizes-via-else-sheet-sizes+else-leave-sizes+then-tally-sizes w ↦ sym (wrong_tally _ _ _ _ _ s.is_served w.if-tally-sizes.true)
    ])

pub tiles_of-requires : goal.tiles_of-requires
tiles_of-requires c = let f = facts _ _ c.in_ok-sizes.sizes.is_served in omega arith

pub returns-then-sizes-tiles_of-clause-number : goal.returns-then-sizes-tiles_of-clause-number
returns-then-sizes-tiles_of-clause-number c =
    let s = c.in_ok-sizes.sizes in
    rw (← c.in_ok-sizes.ensures.0, ← c.in_ok-sizes.ensures.1)
    (sym (too_many _ _ _ _ _ s.is_served s.counts c.if-sheet-sizes.false c.if-leave-sizes.false c.if-tally-sizes.false (omega (arith, c.tiles_of.ensures, c.if-sizes-tiles_of.true))))

pub returns-clause-number : goal.returns-clause-number
returns-clause-number c =
    let s = c.in_ok-sizes.sizes in
    rw (← c.in_ok-sizes.ensures.0, ← c.in_ok-sizes.ensures.1)
    (sym (all_fit _ _ _ _ _ s.is_served s.counts c.if-sheet-sizes.false c.if-leave-sizes.false c.if-tally-sizes.false (omega (arith, c.tiles_of.ensures, c.if-sizes-tiles_of.false))))

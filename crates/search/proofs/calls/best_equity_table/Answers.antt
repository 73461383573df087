use Rattle.std.proofs.Common.{◌≡◌, ℕ, length, take, replicate, true, sym, ◌∙◌, subst, arith}
use Rattle.std.proofs.lemmas.Result.{err_from_is_err_and}
use Rattle.lattice.proofs.Counts.{length_zeros}
use Rattle.lattice.specs.Served.{facts}
use Rattle.search.specs.Split.{small, all_of}
use Rattle.search.specs.Racks.{RacksReady, all_bounded}
use Rattle.search.proofs.FullRacks.{tabled_refused, tabled_filled, table_1, wrong_sheet, wrong_leave, wrong_out, beyond_sheet, beyond_leave}
use Rattle.search.proofs.calls.best_equity_table.Goals.{Else-not-all_small-2, then-sheet-sizes-via-then-sheet-sizes, then-sheet-sizes-via-else-sheet-sizes+then-leave-sizes, then-sheet-sizes-via-else-sheet-sizes+else-leave-sizes+then-out-sizes, then-not-all_small-via-then-not-all_small, then-not-all_small-via-else-not-all_small+then-not-all_small-2}
use Rattle.search.proofs.calls.best_equity_table.Goals as goal

pub returns-in_err-sizes : goal.returns-in_err-sizes
returns-in_err-sizes c =
    let p = err_from_is_err_and c.from_residual.result c.from_residual.ensures.1 in
    rw (p.1, p.2, c.in_err-sizes.ensures.0)
    (tabled_refused _ _ _ _ _ (sym (table_1 _ _ _ _ _ c.in_err-sizes.ensures.1)) (λ z. omega (arith, z)))

pub returns-then-sheet-sizes : goal.returns-then-sheet-sizes
returns-then-sheet-sizes c =
    let s = c.in_ok-sizes.sizes in
    rw (← c.in_ok-sizes.ensures.0, ← c.in_ok-sizes.ensures.1)
    (tabled_refused _ _ _ _ _ (sym (elim c.then-sheet-sizes.branch [
      | then-sheet-sizes-via-then-sheet-sizes w ↦ wrong_sheet _ _ _ _ _ s.is_served s.counts w.if-sheet-sizes.true
      | then-sheet-sizes-via-else-sheet-sizes+then-leave-sizes w ↦ wrong_leave _ _ _ _ _ s.is_served s.counts w.if-leave-sizes.true
      | then-sheet-sizes-via-else-sheet-sizes+else-leave-sizes+then-out-sizes w ↦ wrong_out _ _ _ _ _ s.is_served s.counts w.if-out-sizes.true
    ])) (λ z. omega (arith, z)))

pub returns-then-not-all_small : goal.returns-then-not-all_small
returns-then-not-all_small c =
    let s = c.in_ok-sizes.sizes in
    let sheet = c.if-sheet-sizes.false ∙ s.counts in
    let leave = c.if-leave-sizes.false ∙ s.counts in
    let out = c.if-out-sizes.false ∙ s.counts in
    rw (← c.in_ok-sizes.ensures.0, ← c.in_ok-sizes.ensures.1)
    (tabled_refused _ _ _ _ _ (sym (elim c.then-not-all_small.branch [
      | then-not-all_small-via-then-not-all_small w ↦ beyond_sheet _ _ _ _ _ s.is_served sheet leave out (sym c.all_small.ensures.told ∙ w.if-not-all_small.true)
      | then-not-all_small-via-else-not-all_small+then-not-all_small-2 w ↦ beyond_leave _ _ _ _ _ s.is_served sheet leave out (sym w.all_small-else-not-all_small.ensures.told ∙ w.if-not-all_small-2.true)
    ])) (λ z. omega (arith, z)))

zeros : (c : goal.Else-not-all_small-2) → length {A = ℕ} (take c.in_ok-sizes.sizes.n (replicate 64 0)) ≡ c.in_ok-sizes.sizes.n
zeros c = length_zeros c.in_ok-sizes.sizes.n 64 (facts _ _ c.in_ok-sizes.sizes.is_served).letters

pub slice_bounds-tally-end : goal.slice_bounds-tally-end
slice_bounds-tally-end c = (facts _ _ c.in_ok-sizes.sizes.is_served).letters

pub slice_bounds-fill_racks-end : goal.slice_bounds-fill_racks-end
slice_bounds-fill_racks-end c = sym (zeros (goal.at.slice_bounds-fill_racks-end c).Else-not-all_small-2)

-- no entry is beyond
sheet_small : (c : goal.Else-not-all_small-2) → all_of small c.args.sheet.now ≡ true
sheet_small c = sym c.all_small.ensures.told ∙ c.if-not-all_small.false

leave_small : (c : goal.Else-not-all_small-2) → all_of small c.args.leave.now ≡ true
leave_small c = sym c.all_small-else-not-all_small.ensures.told ∙ c.if-not-all_small-2.false

pub fill_racks-requires : goal.fill_racks-requires
fill_racks-requires c =
    let s = c.in_ok-sizes.sizes in
    let d = (goal.at.fill_racks-requires c).Else-not-all_small-2 in
    subst (λ (k : ℕ). RacksReady k s.r c.args.sheet.now c.args.leave.now (length c.args.out.now)) (sym (zeros d))
    (record {
      sizes = s.is_served;
      in_sheet = c.if-sheet-sizes.false ∙ s.counts;
      in_leave = c.if-leave-sizes.false ∙ s.counts;
      in_out = c.if-out-sizes.false ∙ s.counts;
      sheet_bound = all_bounded c.args.sheet.now (sheet_small d);
      leave_bound = all_bounded c.args.leave.now (leave_small d);
    })

pub returns : goal.returns
returns c =
    let s = c.in_ok-sizes.sizes in
    let d = (goal.at.returns c).Else-not-all_small-2 in
    rw (← c.in_ok-sizes.ensures.0, ← c.in_ok-sizes.ensures.1)
    (tabled_filled _ _ _ _ _ s.is_served (c.if-sheet-sizes.false ∙ s.counts) (c.if-leave-sizes.false ∙ s.counts) (c.if-out-sizes.false ∙ s.counts) (sheet_small d) (leave_small d) (zeros d) c.fill_racks.ensures)

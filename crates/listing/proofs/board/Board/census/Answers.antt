-- By the refusal of the bests, and by the weight.
use Rattle.std.proofs.Common.{◌^◌, ◌≤◌, refl, arith}
use Rattle.std.proofs.lemmas.Result.{err_from_is_err_and}
use Rattle.refusal.specs.Refusal.{code_some, accepted_is}
use Rattle.listing.specs.Listing.{weight}
use Rattle.listing.proofs.Census.{sizes_served, asked, refused_entry, entries_fit, refused_weight, not_refused, told_table, weight_told, told_weight, census_0, census_summed}
use Rattle.listing.proofs.board.Board.census.Goals as goal

pub returns-in_err-best_equity_table : goal.returns-in_err-best_equity_table
returns-in_err-best_equity_table c =
    let q = c.requires in
    let a = asked c.args.self q.bests q.nums q.dens q.num_clear q.den_clear in
    let t = rw (c.lattice.ensures.n, c.lattice.ensures.r) at c.in_err-best_equity_table.ensures in
    let p = err_from_is_err_and c.from_residual.result c.from_residual.ensures.1 in
    rw (p.1, p.2) (record {
      number = refused_entry a t.answered (code_some c.in_err-best_equity_table.field-0.0);
      untouched = (refl, refl);
      bests = told_table t;
      summed = tt;
    })

pub within_weight-requires : goal.within_weight-requires
within_weight-requires c =
    let b = c.args.self in
    let q = c.requires in
    let s = sizes_served b.n b.r b.served in
    let fit = entries_fit (asked b q.bests q.nums q.dens q.num_clear q.den_clear) (rw (c.lattice.ensures.n, c.lattice.ensures.r) at c.in_ok-best_equity_table.ensures).answered refl in
    record { letters = omega (arith, b.counts, s.letters); tiles = s.tiles; sheet = omega (arith, fit, c.largest.ensures); leave = omega (arith, fit, c.largest-2.ensures) }

pub returns-then-not-within_weight : goal.returns-then-not-within_weight
returns-then-not-within_weight c =
    let q = c.requires in
    let a = asked c.args.self q.bests q.nums q.dens q.num_clear q.den_clear in
    let t = rw (c.lattice.ensures.n, c.lattice.ensures.r) at c.in_ok-best_equity_table.ensures in
    let heavy : weight _ ≤ 2 ^ 53 → ⊥ = λ w. c.within_weight.ensures.no c.if-not-within_weight.true (told_weight _ c.largest.ensures c.largest-2.ensures w) in
    record {
      number = refused_weight a (entries_fit a t.answered refl) heavy;
      untouched = (refl, refl);
      bests = told_table t;
      summed = tt;
    }

pub returns : goal.returns
returns c =
    let q = c.requires in
    let a = asked c.args.self q.bests q.nums q.dens q.num_clear q.den_clear in
    let t = rw (c.lattice.ensures.n, c.lattice.ensures.r) at c.in_ok-best_equity_table.ensures in
    let d = rw (c.lattice-2.ensures.n, c.lattice-2.ensures.r) at c.apportion_table.ensures in
    let w = weight_told _ c.largest.ensures c.largest-2.ensures (c.within_weight.ensures.yes c.if-not-within_weight.false) in
    let clear = not_refused a (entries_fit a t.answered refl) w in
    rw (accepted_is c.apportion_table.result (census_0 a t refl w d)) (record {
      number = clear;
      untouched = tt;
      bests = told_table t;
      summed = census_summed a t refl w d clear;
    })

-- The tests go in the order of the numbers. Assumes nothing.
use Rattle.std.proofs.Common.{◌≡◌, length, sym, ◌∙◌, refl, arith}
use mathlib.Core.Bool.{false≢true}
use Rattle.std.proofs.lemmas.Result.{err_from_is_err_and}
use Rattle.draws.specs.Draws.{Lengths}
use Rattle.draws.specs.Draws.DrawNumber.{sizes, lengths, place, rule}
use Rattle.draws.proofs.judge.Goals.{After-fills, then-add-entries-via-then-add-entries, then-add-entries-via-else-add-entries+then-full_v-sizes, then-add-entries-via-else-add-entries+else-full_v-sizes+then-pool-sizes}
use Rattle.draws.proofs.judge.Goals as goal

pub returns-in_err-sizes : goal.returns-in_err-sizes
returns-in_err-sizes c =
    let p = err_from_is_err_and c.from_residual.result c.from_residual.ensures.1 in
    rw (p.1, p.2, c.in_err-sizes.ensures.0) record { given = tt; fills = tt; err = sizes c.in_err-sizes.ensures.1 }

pub returns-then-add-entries : goal.returns-then-add-entries
returns-then-add-entries c =
    let s = c.in_ok-sizes.sizes in
    let wrong : Lengths s.n s.r c.args.add.now c.args.full_v.now c.args.pool.now → ⊥ = λ l. elim c.then-add-entries.branch [
      | then-add-entries-via-then-add-entries w ↦ w.if-add-entries.true (l.in_add ∙ sym c.entries.ensures)
      | then-add-entries-via-else-add-entries+then-full_v-sizes w ↦ omega (arith, w.if-full_v-sizes.true, l.in_full, s.counts)
      | then-add-entries-via-else-add-entries+else-full_v-sizes+then-pool-sizes w ↦ w.if-pool-sizes.true l.in_pool
    ] in
    rw (← c.in_ok-sizes.ensures.0, ← c.in_ok-sizes.ensures.1) record { given = tt; fills = tt; err = lengths s.is_served wrong }

-- the lengths are as they ought to be, where that of the bests is
right : (c : goal.After-fills) → length c.args.full_v.now ≡ c.in_ok-sizes.sizes.len → Lengths c.in_ok-sizes.sizes.n c.in_ok-sizes.sizes.r c.args.add.now c.args.full_v.now c.args.pool.now
right c full =
    let s = c.in_ok-sizes.sizes in
    record { in_add = c.if-add-entries.false ∙ c.entries.ensures; in_full = full ∙ s.counts; in_pool = c.if-pool-sizes.false }

pub returns-then-not-fills : goal.returns-then-not-fills
returns-then-not-fills c =
    let s = c.in_ok-sizes.sizes in
    rw (← c.in_ok-sizes.ensures.0, ← c.in_ok-sizes.ensures.1) record { given = tt; fills = tt; err = place s.is_served (right (goal.at.returns-then-not-fills c).After-fills c.if-full_v-sizes.false) (λ f. false≢true (sym c.if-not-fills.true ∙ c.fills.ensures.1 f)) }

pub returns-then-not-add_is_right : goal.returns-then-not-add_is_right
returns-then-not-add_is_right c =
    let s = c.in_ok-sizes.sizes in
    rw (← c.in_ok-sizes.ensures.0, ← c.in_ok-sizes.ensures.1)
    record { given = tt; fills = tt; err = rule s.is_served (right (goal.at.returns-then-not-add_is_right c).After-fills c.if-full_v-sizes.false) (c.fills.ensures.0 c.if-not-fills.false) (c.add_is_right.ensures.no c.if-not-add_is_right.true) }

pub returns : goal.returns
returns c =
    let s = c.in_ok-sizes.sizes in
    record {
      given = record { letters = c.in_ok-sizes.ensures.0; tiles = c.in_ok-sizes.ensures.1; adds = refl; fulls = refl; pools = refl };
      fills = rw (← c.in_ok-sizes.ensures.0, ← c.in_ok-sizes.ensures.1) (c.fills.ensures.0 c.if-not-fills.false);
      err = tt;
    }

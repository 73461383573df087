-- `draws::mean_of` meets its contract. Assumes nothing.
use mathlib.Core.Path.{◌≡◌, sym, ◌∙◌}
use mathlib.Core.Bool.{true, false}
use Prim.Native.Nat.{ℕ, ◌*◌, ◌^◌, ◌≤◌}
use native.Mathlib.Omega.{arith}
use lib.IntN.{ℤ}
use mir.Syntax.{w32}
use mir.Val.{to_z, of_z}
use mir.ValLaws.{to_z-of_z}
use Rattle.whole.proofs.Steps.{one_literal, zero_literal}
use Rattle.lattice.specs.Tally.{total}
use Rattle.binomials.specs.Binomial.{binomial}
use Rattle.draws.specs.declared.walk.Tables.{Tables}
use Rattle.draws.specs.Draws.{Fills, Passed}
use Rattle.draws.proofs.Answer.{few_letters, few_drawn, walking, most_some, code_ratio, answer_limit, answer_heavy, answer_none, answer_mean}
use Rattle.std.proofs.Common.{Bool}
use Rattle.draws.proofs.mean_of.Goals.{In-Some, Else-not-within_limit}
use Rattle.draws.proofs.mean_of.Goals as goal

-- the call's own facts
passed : (t : Tables) {i d : ℕ} → Fills t.sizes.n t.sizes.r i d → Passed t.sizes.n t.sizes.r t.add.now t.full_v.now t.pool.now i d
passed t f = record { sizes = t.sizes.is_served; lengths = t.lengths; fills = f; table = t.right }

pub tiles_in-tiles-requires : goal.tiles_in-tiles-requires
tiles_in-tiles-requires c = few_letters (passed c.args.tables c.requires)

pub weight-requires : goal.weight-requires
weight-requires c = few_drawn (passed c.args.tables c.requires)

pub aggregate-sums-requires : goal.aggregate-sums-requires
aggregate-sums-requires c = (c.args.tables.sizes.r, walking (passed c.args.tables c.requires) c.tiles_in-tiles.ensures)

pub within_limit-requires : goal.within_limit-requires
within_limit-requires c = omega (arith, most_some (passed c.args.tables c.requires) _ _ _ one_literal zero_literal zero_literal c.aggregate-sums.ensures)

pub returns-in_default : goal.returns-in_default
returns-in_default c = answer_heavy (passed c.args.tables c.requires) (rw c.tiles_in-tiles.ensures at c.in_default.ensures)

-- the number of draws
hands_are : (c : goal.In-Some) → c.in-Some.hands ≡ binomial (total c.args.tables.pool.now) c.args.draw
hands_are c = rw c.tiles_in-tiles.ensures at c.in-Some.ensures.1

-- that it is within the limit
within : (c : goal.Else-not-within_limit) → binomial (total c.args.tables.pool.now) c.args.draw * c.aggregate-sums.result.most ≤ 2 ^ 53
within c = rw (hands_are (goal.at.Else-not-within_limit c).In-Some) at (c.within_limit.ensures.0 c.if-not-within_limit.false)

pub cut-requires : goal.cut-requires
cut-requires c = code_ratio (passed c.args.tables c.requires) _ _ _ one_literal zero_literal zero_literal c.aggregate-sums.ensures (within (goal.at.cut-requires c).Else-not-within_limit)

pub returns-then-hands-eq0 : goal.returns-then-hands-eq0
returns-then-hands-eq0 c = answer_none (passed c.args.tables c.requires) _ _ _ one_literal zero_literal zero_literal c.aggregate-sums.ensures (within (goal.at.returns-then-hands-eq0 c).Else-not-within_limit) (sym (hands_are (goal.at.returns-then-hands-eq0 c).In-Some) ∙ c.if-hands-eq0.true)

pub returns : goal.returns
returns c =
    let g = c.aggregate-sums.ensures in
    let v : ℤ = c.cut.result in
    let back : to_z w32 (of_z w32 v) ≡ v = to_z-of_z w32 v (record { sfits = c.cut.type_inv }) in
    answer_mean (passed c.args.tables c.requires) _ _ _ one_literal zero_literal zero_literal g (within (goal.at.returns c).Else-not-within_limit) (λ z. c.if-hands-eq0.false (hands_are (goal.at.returns c).In-Some ∙ z))
    (back ∙ c.cut.ensures (code_ratio (passed c.args.tables c.requires) _ _ _ one_literal zero_literal zero_literal g (within (goal.at.returns c).Else-not-within_limit)))

pub returns-then-not-within_limit : goal.returns-then-not-within_limit
returns-then-not-within_limit c =
    answer_limit (passed c.args.tables c.requires) _ _ _ one_literal zero_literal zero_literal c.aggregate-sums.ensures (λ h. over (c.within_limit.ensures.1 (rw (hands_are (goal.at.returns-then-not-within_limit c).In-Some) h)) c.if-not-within_limit.true)
  where
    over : {b : mathlib.Core.Bool.Bool} → b ≡ true → b ≡ false → ⊥
    over e f = let z : ◌≡◌ {A = ℕ} 0 1 = cc in omega arith

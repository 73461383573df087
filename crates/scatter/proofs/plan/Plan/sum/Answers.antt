-- the letters from that of this turn on are done
use Rattle.std.proofs.Common.{◌≡◌, ℕ, suc, ◌+◌, ◌-◌, ◌*◌, ◌≤◌, length, drop, ap, ◌∙◌, arith}
use native.Mathlib.Nat.{sub-zero}
use Rattle.lattice.specs.Tally.{total, within}
use Rattle.scatter.specs.Plan.{Summed, summed_start, summed_next, summed_all, rest_next, tail_next, room_next, tail_fits, total_drop_le}
use Rattle.scatter.proofs.plan.Plan.sum.Goals.{After-rank_step-tail, After-from-own, After-from-room, In-loop-i}
use Rattle.scatter.proofs.plan.Plan.sum.Goals as goal

-- what is known in a turn
module _ (c : goal.In-loop-i) where
  abbrev at : ℕ
  at = length c.args.tally.now - 1 - c.loop-i.i

  letter_is : length c.args.tally.now - c.loop-i.i ≡ at + 1
  letter_is = let l = c.loop-i-test.true in omega arith

  after_is : c.loop-i.i ≡ length c.args.tally.now - suc at
  after_is = let l = c.loop-i-test.true in omega arith

  here : Summed c.args.tally.now c.args.caps.now (at + 1) c.loop-i.rest c.loop-i.tail c.loop-i.room c.loop-i.self.rest c.loop-i.self.tail c.loop-i.self.room
  here = rw letter_is at c.loop-i.invariant.1

rest_is : (c : goal.After-from-own) → c.loop-i.rest + c.from-own.result ≡ total (drop (at (goal.at.After-from-own c).In-loop-i) c.args.tally.now)
rest_is c =
    let p = c.requires in
    ap (λ (x : ℕ). c.loop-i.rest + x) c.from-own.ensures ∙ rest_next _ _ p.letters p.same (at (goal.at.After-from-own c).In-loop-i) (here (goal.at.After-from-own c).In-loop-i)

rest_fits : (c : goal.After-from-own) → total (drop (at (goal.at.After-from-own c).In-loop-i) c.args.tally.now) ≤ 15
rest_fits c =
    omega (arith, total_drop_le c.args.tally.now (at (goal.at.After-from-own c).In-loop-i), c.requires.tiles)

tail_is : (c : goal.After-rank_step-tail) → c.loop-i.tail + c.rank_step-tail.result ≡ within (drop (at (goal.at.After-rank_step-tail c).In-loop-i) c.args.tally.now)
tail_is c =
    let p = c.requires in
    ap (λ (x : ℕ). c.loop-i.tail + x) c.rank_step-tail.ensures ∙ tail_next _ _ p.letters p.same (at (goal.at.After-rank_step-tail c).In-loop-i) (here (goal.at.After-rank_step-tail c).In-loop-i) (after_is (goal.at.After-rank_step-tail c).In-loop-i) (rest_is (goal.at.After-rank_step-tail c).After-from-own) c.from-own.ensures

room_is : (c : goal.After-from-room) → c.loop-i.room + c.from-room.result ≡ total (drop (at (goal.at.After-from-room c).In-loop-i) c.args.caps.now)
room_is c =
    let p = c.requires in
    ap (λ (x : ℕ). c.loop-i.room + x) c.from-room.ensures ∙ room_next _ _ p.letters p.same (at (goal.at.After-from-room c).In-loop-i) (here (goal.at.After-from-room c).In-loop-i)

room_fits : (c : goal.After-from-room) → c.loop-i.room + c.from-room.result ≤ 255 * (length c.args.tally.now - at (goal.at.After-from-room c).In-loop-i)
room_fits c =
    let l = c.loop-i-test.true in
    let f = (here (goal.at.After-from-room c).In-loop-i).room_fits in
    let e = c.from-room.ensures in
    omega (arith, c.type_inv.caps (at (goal.at.After-from-room c).In-loop-i))

pub loop-i-init : goal.loop-i-init
loop-i-init c =
    (omega arith, rw sub-zero (summed_start _ _ c.requires.letters c.requires.same _ _ _ (omega arith) (omega arith) (omega arith)))

pub overflow_add-rest : goal.overflow_add-rest
overflow_add-rest c = omega (arith, rest_is c, rest_fits c)

pub rank_step-tail-requires : goal.rank_step-tail-requires
rank_step-tail-requires c =
    let l = c.loop-i-test.true in
    record { letters = omega (arith, c.requires.letters); tiles = omega (arith, rest_is c, rest_fits c); inside = omega arith }

pub overflow_add-tail : goal.overflow_add-tail
overflow_add-tail c =
    omega (arith, tail_is c, tail_fits c.args.tally.now (at (goal.at.overflow_add-tail c).In-loop-i) c.requires.letters c.requires.tiles)

pub loop-i-preserved : goal.loop-i-preserved
loop-i-preserved c =
    let p = c.requires in
    let l = c.loop-i-test.true in
    let e : length c.args.tally.now - (c.loop-i.i + 1) ≡ at (goal.at.loop-i-preserved c).In-loop-i = omega arith in
    (omega arith, rw e (summed_next _ _ p.letters p.same (at (goal.at.loop-i-preserved c).In-loop-i) (here (goal.at.loop-i-preserved c).In-loop-i) (rest_is (goal.at.loop-i-preserved c).After-from-own) (tail_is (goal.at.loop-i-preserved c).After-rank_step-tail) (room_is (goal.at.loop-i-preserved c).After-from-room) (room_fits (goal.at.loop-i-preserved c).After-from-room)))

pub returns : goal.returns
returns c =
    let e : length c.args.tally.now - c.loop-i.i ≡ 0 = omega (arith, c.loop-i-test.false, c.loop-i.invariant.0) in
    summed_all _ (rw e at c.loop-i.invariant.1)

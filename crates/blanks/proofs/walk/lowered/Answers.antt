-- `blanks::walk::lowered` meets its contract. Assumes nothing.
use Rattle.std.proofs.Common.{◌≡◌, sym, ◌∙◌, ℕ, ◌+◌, ◌-◌, ◌≤◌, ◌<◌, ℤ, pos, List, length, get_or, take, drop, arith, w32, length-take-le, length-drop}
use Rattle.std.proofs.lemmas.List.{get_or-take, get_or-drop}
use mir.ValLaws.{to_z-of_z}
use Rattle.blanks.specs.Ready.{less_zero}
use Rattle.blanks.proofs.Slices.{less_asked, less_more}
use Rattle.blanks.proofs.walk.lowered.Goals as goal

-- a part's drop
part : (at b i : ℕ) (ds : List ℤ) → i < b → get_or (take (at + b - at) (drop at ds)) i (pos 0) ≡ get_or ds (at + i) (pos 0)
part at b i ds h = get_or-take (at + b - at) (drop at ds) i (pos 0) (omega arith) ∙ get_or-drop at ds i (pos 0)

-- and how many there are
parts : (at b : ℕ) (ds : List ℤ) → at + b ≤ length ds → length (take (at + b - at) (drop at ds)) ≡ b
parts at b ds h =
    let l = length-drop at ds in
    omega (arith, length-take-le (at + b - at) (drop at ds) (omega arith))

pub loop-drop-init : goal.loop-drop-init
loop-drop-init c = sym (less_zero _ _ _)

pub overflow_sub-value : goal.overflow_sub-value
overflow_sub-value c =
    let n = parts c.args.at c.args.b c.args.drops.now c.requires.inside in
    let h : c.loop-drop.drop-index < c.args.b = omega arith in
    rw (part c.args.at c.args.b c.loop-drop.drop-index c.args.drops.now h) (less_asked c.args.v _ _ _ c.requires.small (omega arith) (rw (to_z-of_z w32 c.args.v c.ranges.v) at c.loop-drop.invariant))

pub loop-drop-preserved : goal.loop-drop-preserved
loop-drop-preserved c =
    let n = parts c.args.at c.args.b c.args.drops.now c.requires.inside in
    let h : c.loop-drop.drop-index < c.args.b = omega arith in
    rw (part c.args.at c.args.b c.loop-drop.drop-index c.args.drops.now h, to_z-of_z w32 c.args.v c.ranges.v) (less_more c.args.v _ _ _ c.requires.small (omega arith) (rw (to_z-of_z w32 c.args.v c.ranges.v) at c.loop-drop.invariant))

pub returns : goal.returns
returns c =
    let n = parts c.args.at c.args.b c.args.drops.now c.requires.inside in
    let e : c.loop-drop.drop-index ≡ c.args.b = omega arith in
    rw (to_z-of_z w32 c.args.v c.ranges.v, e) at c.loop-drop.invariant

-- `runs::letters_of` meets its contract. The loop's invariant: the word is that of the letters passed, and has as many bits. Assumes nothing.
use Rattle.std.proofs.Common.{◌≡◌, ℕ, zero, suc, ◌+◌, ◌*◌, ◌^◌, ◌<◌, ◌≤◌, not, eqb, get_or, refl, ◌∙◌, ap, ne_eqb, add-one, pow-suc, arith}
use Rattle.std.proofs.Math.Pow.{pow_mono}
use mir.Val.{bool_byte}
use Rattle.runs.specs.Runs.{mark, present, present_next}
use Rattle.runs.proofs.letters_of.Goals as goal

-- the bit of a letter
marked : (count : ℕ) → bool_byte (not (eqb count 0)) ≡ mark count
unfolding mark
marked zero = refl
marked (suc c) = rw (ne_eqb (suc c) 0 (λ e. omega arith))

-- a bit more fits
longer : (w i b : ℕ) → w < 2 ^ i → w * 2 + mark b < 2 ^ (i + 1)
unfolding mark
longer w i zero h = let e : 2 ^ (i + 1) ≡ 2 ^ i * 2 = ap (λ (k : ℕ). 2 ^ k) (add-one i) ∙ pow-suc 2 i in omega (arith, e)
longer w i (suc b) h = let e : 2 ^ (i + 1) ≡ 2 ^ i * 2 = ap (λ (k : ℕ). 2 ^ k) (add-one i) ∙ pow-suc 2 i in omega (arith, e)

-- the bit of a turn, and the word with it
bit : (c : goal.After-from) → c.from.result ≡ mark (get_or c.args.tally.now c.loop-count.count-index 0)
bit c = c.from.ensures ∙ marked _

more : (c : goal.After-from) → c.loop-count.word * 2 + c.from.result < 2 ^ (c.loop-count.count-index + 1)
more c = rw (bit c) (longer c.loop-count.word c.loop-count.count-index _ c.loop-count.invariant.fits)

pub loop-count-init : goal.loop-count-init
unfolding present
loop-count-init c = record { word = refl; fits = omega arith }

pub overflow_add-word : goal.overflow_add-word
overflow_add-word c =
    let i : c.loop-count.count-index + 1 ≤ 64 = omega arith in
    let most : 2 ^ (c.loop-count.count-index + 1) ≤ 2 ^ 64 = pow_mono i in
    omega (arith, more c)

pub loop-count-preserved : goal.loop-count-preserved
loop-count-preserved c =
    let at = c.loop-count in
    record {
      word = present_next c.args.tally.now c.loop-count-test.true at.invariant.word refl (ap (λ (b : ℕ). at.word * 2 + b) (bit c));
      fits = more c;
    }

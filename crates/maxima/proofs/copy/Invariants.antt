use Rattle.std.specs.Prelude.{◌≡◌, length, take}
use Rattle.maxima.proofs.copy.Given as goal

abbrev pub invariant-loop-i : goal.invariant-loop-i
invariant-loop-i l = (length l.dst ≡ length l.initial.dst) × (take l.i l.dst ≡ take l.i l.src)

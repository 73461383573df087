use Rattle.std.proofs.Common.{◌≡◌, ℕ, Some, None, Bool, true, false, not, T, is_nan, to_bits, if◌then◌else◌, ap, subst, arith}
use Rattle.std.specs.Float.{binary64}
use Rattle.std.proofs.lemmas.Float.{not_nan_f64_bits}
use lib.Ieee.{of_bits}
use lib.Ieee.Bits.{to_bits-of_bits, nan_bits_is}
use Rattle.cases.proofs.recorded.F64Recorded.read.Goals as goal

some_if_not : (b : Bool) (m n : ℕ) → T (not b) → m ≡ n → (if b then None else Some m) ≡ Some n
some_if_not true m n t e = absurd t
some_if_not false m n t e = ap Some e

pub returns-clause-value : goal.returns-clause-value
returns-clause-value c =
    let n : ℕ = c.args.number in
    let t : T (not (is_nan (of_bits binary64 n))) =
    subst (λ b. T (not b)) (nan_bits_is binary64 n) (not_nan_f64_bits n (omega arith)) in
    some_if_not (is_nan (of_bits binary64 n)) (to_bits binary64 (of_bits binary64 n)) n t (to_bits-of_bits binary64 n (omega arith) t)

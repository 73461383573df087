use Rattle.std.proofs.Common.{◌≡◌, vec_len}
use Rattle.cases.proofs.fields.Fields.list.Given as goal

abbrev pub invariant-loop-number : goal.invariant-loop-number
invariant-loop-number g l = vec_len l.values ≡ l.number-index

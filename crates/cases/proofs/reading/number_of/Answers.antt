use Rattle.std.proofs.Common.{arith}
use Rattle.cases.proofs.Words.{negated_after_minus}
use Rattle.cases.proofs.reading.number_of.Goals as goal

pub returns-in-45-clause-none : goal.returns-in-45-clause-none
returns-in-45-clause-none c nothing n h =
    c.negative_of.ensures.none nothing n (negated_after_minus c.args.word.now n (omega arith) h)

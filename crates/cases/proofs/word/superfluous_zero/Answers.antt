use Rattle.std.proofs.Common.{arith}
use Rattle.cases.proofs.Words.{zero_goes_after_minus, long_says_nothing}
use Rattle.cases.proofs.word.superfluous_zero.Goals as goal

pub returns-in-45-clause-same : goal.returns-in-45-clause-same
returns-in-45-clause-same c =
    zero_goes_after_minus c.args.word.now c.in-45.len_at_least (omega arith) (omega arith)

pub returns-in_default-9-clause-none : goal.returns-in_default-9-clause-none
returns-in_default-9-clause-none c _ long n more =
    long_says_nothing c.args.word.now more n long (λ e k. omega (arith, e, k)) (λ e f k. omega (arith, e, f, k))

pub returns-in_default-10-clause-none : goal.returns-in_default-10-clause-none
returns-in_default-10-clause-none c _ long n more =
    long_says_nothing c.args.word.now more n long (λ e k. omega (arith, e, k)) (λ e f k. omega (arith, e, f, k))

use Rattle.std.proofs.Common.{IsUtf8, rules}
use Rattle.std.proofs.lemmas.Str.{IsUtf8-from_ascii}
use Rattle.cases.proofs.Words.{digits_are_ascii}
use Rattle.cases.proofs.reading.natural_of.Goals as goal

pub returns-in_err-ok-clause-none : goal.returns-in_err-ok-clause-none
returns-in_err-ok-clause-none c _ n h =
    let broken : IsUtf8 c.args.word.now → ⊥ = search rules in
    absurd (broken (IsUtf8-from_ascii c.args.word.now (digits_are_ascii c.args.word.now h.0.1)))

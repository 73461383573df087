use Rattle.std.proofs.Common.{◌≡◌, ℕ, List, Option, Some, IfSome, subst, rules}
use Rattle.cases.specs.Word.{Says}
use Rattle.cases.proofs.reading.Reading.take.Goals as goal

says_some : (word : List ℕ) (number : Option ℕ) (n : ℕ) → IfSome number (λ m. Says m word)
    → number ≡ Some n → Says n word
says_some word number n h e = subst (λ r. IfSome r (λ m. Says m word)) e h

pub returns-in_err-push-in-Within-clause-malformed :
    goal.returns-in_err-push-in-Within-clause-malformed
returns-in_err-push-in-Within-clause-malformed c wrong _ =
    absurd (wrong _ (says_some _ _ c.in_ok-number.number c.number_of.ensures.some (search rules)))

pub returns-then-len-wanted-clause-malformed : goal.returns-then-len-wanted-clause-malformed
returns-then-len-wanted-clause-malformed c wrong _ =
    absurd (wrong _ (says_some _ _ c.in_ok-number.number c.number_of.ensures.some (search rules)))

pub returns-after-number-clause-malformed : goal.returns-after-number-clause-malformed
returns-after-number-clause-malformed c wrong _ =
    absurd (wrong _ (says_some _ _ c.in_ok-number.number c.number_of.ensures.some (search rules)))

pub returns-else-len-wanted-clause-malformed : goal.returns-else-len-wanted-clause-malformed
returns-else-len-wanted-clause-malformed c wrong _ =
    absurd (wrong _ (says_some _ _ c.in_ok-number.number c.number_of.ensures.some (search rules)))

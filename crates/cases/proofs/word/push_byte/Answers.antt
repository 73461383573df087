use Rattle.std.proofs.Common.{◌≡◌, List, ℕ, ◌∷◌, [], ◌++◌, remove, refl, sym, subst, rules, arith}
use Rattle.cases.specs.Word.{Says, SaysTheSame}
use Rattle.cases.proofs.Words.{same_of_equal, same_after, same_after_nothing}
use Rattle.cases.proofs.word.push_byte.Goals.{then-len-ge-MOST_BYTES+in-Some, else-len-ge-MOST_BYTES}
use Rattle.cases.proofs.word.push_byte.Goals as goal

pub returns-in_default-clause-same : goal.returns-in_default-clause-same
returns-in_default-clause-same c = same_after_nothing c.args.word.now.items c.args.byte
    (λ n more. subst (λ w. Says n (w ++ more) → ⊥) c.deref-then-len-ge-MOST_BYTES.ensures.value
    (c.in_default.ensures.none refl (omega arith) n more))

pub returns-clause-same : goal.returns-clause-same
returns-clause-same c =
    let word : List ℕ = c.args.word.now.items in
    let left : List ℕ = c.if-len-ge-MOST_BYTES.word.items in
    let kept : SaysTheSame word left = elim c.if-len-ge-MOST_BYTES.branch [
      | then-len-ge-MOST_BYTES+in-Some w ↦
          let e : left ≡ remove word w.in-Some.zero = search rules in
          subst (λ x. SaysTheSame word x) (sym e)
          (subst (λ x. SaysTheSame x (remove x w.in-Some.zero)) w.deref-then-len-ge-MOST_BYTES.ensures.value w.in-Some.ensures.same)
      | else-len-ge-MOST_BYTES w ↦ same_of_equal word left (search rules)
    ] in
    subst (λ x. SaysTheSame (word ++ c.args.byte ∷ []) x) (sym c.in_ok-push.ensures.items) (same_after word left c.args.byte kept)

pub returns-then-is_zero-clause-same : goal.returns-then-is_zero-clause-same
returns-then-is_zero-clause-same c =
    let word : List ℕ = c.args.word.now.items in
    let e : 48 ≡ c.args.byte = omega arith in
    subst (λ b. SaysTheSame (word ++ b ∷ []) word) e
    (subst (λ w. SaysTheSame (w ++ 48 ∷ []) w) c.deref.ensures.value (c.is_zero.ensures.same c.if-is_zero.true))

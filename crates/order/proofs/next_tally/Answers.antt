-- `order::next_tally` meets its contract. Each arm is one law: no letter is there, only the first one, or a later one. Assumes nothing.
use Rattle.std.proofs.Common.{ℕ, ◌-◌, sym, ap, ◌∙◌, arith, get_or-set_other}
use Rattle.std.proofs.Math.Seq.{take-length}
use Rattle.lattice.proofs.Counts.{get_or_le_total}
use Rattle.runs.specs.Runs.{present, ones_none}
use Rattle.order.proofs.Following.{none_next, first_next, later_next, later_letters, later_fits}
use Rattle.order.proofs.next_tally.Goals as goal

pub returns-then-word-eq0-clause-next : goal.returns-then-word-eq0-clause-next
returns-then-word-eq0-clause-next c = (none_next c.args.tally.now c.requires.some (sym c.requires.word ∙ c.if-word-eq0.true)).0

pub returns-then-word-eq0-clause-word : goal.returns-then-word-eq0-clause-word
returns-then-word-eq0-clause-word c = (none_next c.args.tally.now c.requires.some (sym c.requires.word ∙ c.if-word-eq0.true)).1

pub next_run-run-requires-clause-word : goal.next_run-run-requires-clause-word
next_run-run-requires-clause-word c = c.requires.word ∙ ap present (sym (take-length c.args.tally.now))

pub next_run-run-requires-clause-some : goal.next_run-run-requires-clause-some
next_run-run-requires-clause-some c none = c.if-word-eq0.false (ones_none 64 c.args.word c.ranges.word.fits none)

pub overflow_add-tally : goal.overflow_add-tally
overflow_add-tally c =
    let x = c.args.tally.now in
    omega (arith, c.requires.tiles, get_or_le_total x (c.next_run-run.result.stop - 1))

pub returns-then-last-eq0-clause-next : goal.returns-then-last-eq0-clause-next
returns-then-last-eq0-clause-next c = (first_next _ _ _ c.next_run-run.ensures c.if-last-eq0.true).0

pub returns-then-last-eq0-clause-word : goal.returns-then-last-eq0-clause-word
returns-then-last-eq0-clause-word c = (first_next _ _ _ c.next_run-run.ensures c.if-last-eq0.true).1

pub overflow_add-tally-2 : goal.overflow_add-tally-2
overflow_add-tally-2 c =
    let x = c.args.tally.now in
    let last : ℕ = c.next_run-run.result.stop - 1 in
    omega (arith, c.requires.tiles, get_or-set_other x last (last - 1) 0 0 (λ e. omega arith), get_or_le_total x (last - 1))

pub next_word-requires-clause-fits : goal.next_word-requires-clause-fits
next_word-requires-clause-fits c = later_fits _ _ _ c.next_run-run.ensures c.if-last-eq0.false c.requires.letters

pub returns-clause-next : goal.returns-clause-next
returns-clause-next c = later_next _ _ _ c.next_run-run.ensures c.if-last-eq0.false

pub returns-clause-word : goal.returns-clause-word
returns-clause-word c = c.next_word.ensures ∙ later_letters _ _ _ c.next_run-run.ensures c.if-last-eq0.false

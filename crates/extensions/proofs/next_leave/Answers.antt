-- `extensions::next_leave` meets its contract. Assumes nothing.
use Rattle.std.proofs.Common.{ℕ, take, sym, ap, ◌∙◌, subst, arith}
use Rattle.std.proofs.Math.Seq.{take-length}
use Rattle.runs.specs.Runs.{present, RunAt}
use Rattle.extensions.specs.Onward.{next_there, onward, stop_run}
use Rattle.extensions.proofs.next_leave.Goals as goal

pub next_run-requires-clause-word : goal.next_run-requires-clause-word
next_run-requires-clause-word c =
    let u = c.next_tally-word.new.tally in
    let v = c.next_tally-word.ensures in
    v.word ∙ sym (ap (λ (k : ℕ). present (take k u)) (sym v.next.letters) ∙ ap present (take-length u))

pub next_run-requires-clause-some : goal.next_run-requires-clause-some
next_run-requires-clause-some c =
    let v = c.next_tally-word.ensures in
    next_there c.args.tally.now c.next_tally-word.new.tally v.next v.word

pub returns-clause-onward : goal.returns-clause-onward
returns-clause-onward c =
    let v = c.next_tally-word.ensures in
    let u = c.next_tally-word.new.tally in
    let run = subst (λ (k : ℕ). RunAt u k c.next_run.result.stop c.next_run.result.rest) (sym v.next.letters) c.next_run.ensures in
    onward c.args.tally.now u c.args.e.stop c.args.e.first _ _ c.requires.walking.some v.next (stop_run u _ _ run) (omega (arith, c.racks.ensures))

use Rattle.std.proofs.Common.{rules}
use Rattle.runs.specs.Runs.{ones_none}
use Rattle.runs.proofs.Runs.split_last.Goals as goal

pub next_run-run-requires-clause-some : goal.next_run-run-requires-clause-some
next_run-run-requires-clause-some c o = c.if-self-eq0.false (ones_none 64 c.args.self.word (search rules) o)

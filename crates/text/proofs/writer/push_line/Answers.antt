use Rattle.std.proofs.Common.{rules, arith}
use Rattle.std.proofs.lemmas.Int.{ints}
use Rattle.std.proofs.lemmas.Grind.{common_steps}
use Rattle.text.proofs.Writing.{fields_none, fields_first, fields_more, line_is}
use Rattle.text.proofs.writer.push_line.Goals as goal
use Rattle.text.proofs.writer.push_line.Goals.{then-i-gt0, else-i-gt0}

pub loop-i-init : goal.loop-i-init
loop-i-init g c = record { text = rw fields_none (search rules); short = omega arith }

pub loop-i-preserved : goal.loop-i-preserved
loop-i-preserved g c =
    elim c.if-i-gt0.branch [
      | then-i-gt0 w ↦ record { text = grind (arith, common_steps, ints, fields_more); short = grind (arith, common_steps) }
      | else-i-gt0 w ↦ record { text = grind (arith, common_steps, ints, fields_first); short = grind (arith, common_steps) }
    ]

pub returns-clause-text : goal.returns-clause-text
returns-clause-text g c = rw line_is (grind (arith, common_steps))

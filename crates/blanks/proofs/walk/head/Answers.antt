-- `blanks::walk::head` meets its contract. Assumes nothing.
use native.Mathlib.Omega.{arith}
use Rattle.blanks.specs.Ready.{head_is}
use Rattle.blanks.proofs.walk.head.Goals as goal

pub overflow_sub-result : goal.overflow_sub-result
overflow_sub-result c =
    omega (arith, c.choose.ensures, head_is c.args.size c.args.k c.requires.some c.requires.blanks, c.requires.top)

pub returns : goal.returns
returns c =
    omega (arith, c.choose.ensures, head_is c.args.size c.args.k c.requires.some c.requires.blanks, c.requires.top)

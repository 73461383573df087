-- The first numbers are appended, with a space between them.
use Rattle.std.proofs.Common.{◌≡◌, ◌+◌, ◌*◌, ◌≤◌, ◌++◌, take}
use Rattle.arrayvec.specs.ArrayVec.{array_vec_len}
use Rattle.text.proofs.Writing.{fields}
use Rattle.text.proofs.writer.push_line.Given as goal

abbrev pub invariant-loop-i : goal.invariant-loop-i
invariant-loop-i g l = record {
  text : l.page.items ≡ l.fn.page.items ++ fields (take l.i l.numbers);
  short : array_vec_len l.page ≤ array_vec_len l.fn.page + 21 * l.i;
}

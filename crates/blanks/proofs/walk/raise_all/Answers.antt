use Rattle.std.proofs.Common.{◌≡◌, suc, length, sym, ap, ◌∙◌, arith, zero-add}
use lib.Seq.{take-length}
use mir.Syntax.{w32}
use mir.ValLaws.{to_z-of_z}
use Rattle.runs.specs.Runs.{present, word_none}
use Rattle.blanks.specs.Ready.{first_ready, letter_there}
use Rattle.blanks.proofs.walk.raise_all.Goals.{After-tally_letters-word}
use Rattle.blanks.proofs.walk.raise_all.Goals as goal

-- the tally is as long as it was
long : (c : goal.After-tally_letters-word) → suc (length c.tally_letters-word.new.tally) ≡ length c.args.unseen.now
long c = omega arith

pub turns-requires : goal.turns-requires
turns-requires c =
    let r = first_ready c.requires.board (long (goal.at.turns-requires c).After-tally_letters-word) c.tally_letters-word.ensures.tally c.requires.score in
    let e = c.tally_letters-word.ensures.word ∙ ap present (sym (take-length _)) in
    record {
      ready = rw (to_z-of_z w32 c.args.score c.ranges.score) r;
      word = e;
      some = λ o. letter_there r c.requires.some (word_none r.top e o);
      blanks = zero-add _;
    }

-- `lattice::add::step` meets its contract. Each arm is one law of the walk: a step to the next size, or within a size. Assumes nothing.
use Rattle.std.proofs.Common.{◌≡◌, ◌-◌, length, take, sym, ◌∙◌, arith, length-set, length-take-le}
use Rattle.lattice.specs.AddRows.{Stepped}
use Rattle.lattice.proofs.AddWalk.{step_size, step_within, zeroed, last_filled, level_filled, last_gone, stepped_part}
use Rattle.lattice.proofs.add.step.Goals.{then-last-eq0, else-last-eq0}
use Rattle.lattice.proofs.add.step.Goals as goal

pub returns-then-v-eq0 : goal.returns-then-v-eq0
returns-then-v-eq0 c =
    let a = c.args in
    let last = c.requires.last in
    elim c.if-last-eq0.branch [
      | then-last-eq0 w ↦ absurd (let v = w.v-is in omega (arith, c.if-v-eq0.true))
      | else-last-eq0 w ↦
          let some = w.if-last-eq0.false in
          stepped_part a.n a.last _ _ _ _ (length-set (take a.n a.tails.now) a.last 0 ∙ length-take-le a.n a.tails.now (omega arith))
          (record {
            advanced = step_within _ _ a.last 0 last some (sym c.if-v-eq0.true ∙ w.v-is) (zeroed _ _ last);
            kept = (zeroed _ _ last).kept;
            level = level_filled _ _ a.last 0 (zeroed _ _ last) last.inside;
            last_of = last_gone _ _ last some c.requires.falls;
          })
    ]

pub returns : goal.returns
returns c =
    let a = c.args in
    let filled = c.refill.ensures in
    let last = c.requires.last in
    let letters : length (take a.n a.tails.now) ≡ a.n = length-take-le a.n a.tails.now (omega arith) in
    let stepped : Stepped a.last _ _ (length (take a.n a.tails.now) - 1) = record {
      advanced = elim c.if-last-eq0.branch [
        | then-last-eq0 w ↦ step_size _ _ a.last _ last w.if-last-eq0.true w.v-is filled
        | else-last-eq0 w ↦ step_within _ _ a.last _ last w.if-last-eq0.false w.v-is filled
      ];
      kept = filled.kept;
      level = level_filled _ _ a.last _ filled last.inside;
      last_of = last_filled _ _ a.last _ filled last.inside (omega (arith, c.if-v-eq0.false));
    } in
    stepped_part a.n a.last _ _ _ _ (filled.letters ∙ letters) (rw letters at stepped)

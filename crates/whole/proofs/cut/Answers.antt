-- `whole::cut` meets its contract: the rounded quotient cut toward zero is the whole-number quotient, and it fits. Assumes nothing.
use Rattle.std.proofs.Common.{◌≡◌, sym, ◌∙◌, subst, w32, w64, SFits, to_z, of_z}
use mir.ValLaws.{to_z-of_z}
use Rattle.whole.specs.Mean.{mean, Ratio}
use Rattle.whole.proofs.Means.{mean_none, mean_cut, mean_asks}
use Rattle.whole.proofs.cut.Goals.{After-truncating_f64_to_i64}
use Rattle.whole.proofs.cut.Goals as goal

pub truncating_f64_to_i64-requires : goal.truncating_f64_to_i64-requires
truncating_f64_to_i64-requires c = let all = mean_asks c.args.num c.args.den c.requires c.if-den.true in record { lower_bound = all.0; upper_bound = all.1 }

-- the cut quotient, as the machine reads it back from its bits
read_back : (c : goal.After-truncating_f64_to_i64) (v : Ratio c.args.num c.args.den) → to_z w64 (of_z w64 c.truncating_f64_to_i64.result) ≡ mean v.top v.bottom
read_back c v =
    to_z-of_z w64 c.truncating_f64_to_i64.result (record { sfits = c.truncating_f64_to_i64.type_inv })
    ∙ c.truncating_f64_to_i64.ensures
    ∙ mean_cut c.args.num c.args.den v c.if-den.true

pub overflow_cast-result : goal.overflow_cast-result
overflow_cast-result c = subst (SFits w32) (sym (read_back c c.requires)) (record { sfits = c.requires.in_range })

pub returns-then-den : goal.returns-then-den
returns-then-den c v = to_z-of_z w32 (to_z w64 (of_z w64 c.truncating_f64_to_i64.result)) (overflow_cast-result c) ∙ read_back c v

pub returns-else-den : goal.returns-else-den
returns-else-den c v = mean_none c.args.num c.args.den v c.if-den.false

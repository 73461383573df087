-- the fold gives the larger of each entry's size and what came before
use Rattle.std.proofs.Common.{ℕ, ℤ, max, nat_abs, rules, tests, ◌∙◌, arith}
use Rattle.std.proofs.lemmas.Iterator.{YieldsList-from_slice}
use Rattle.std.proofs.lemmas.Iterator.Consumers.{fold_from_yields_List}
use Rattle.sums.specs.Largest.{largest_fold}
use Rattle.sums.proofs.weight.largest.Goals as goal

pub returns : goal.returns
returns c =
    fold_from_yields_List _ (λ (a : ℕ) (x : ℤ). max a (nat_abs x)) 0 _ c.fold.ensures.ran (YieldsList-from_slice c.args.entries.now cc) (λ a x b q k. search (rules, tests))
    ∙ largest_fold 0 c.args.entries.now ∙ omega arith

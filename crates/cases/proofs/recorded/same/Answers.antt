use Rattle.std.proofs.Common.{◌≡◌, ◌≢◌, Some, rules, arith, tests}
use Rattle.std.proofs.lemmas.Iterator.{YieldsList-from_slice, YieldsList-from_zip, cases_from_all}
use Rattle.std.proofs.lemmas.Slice.Zip.{AllZip-long}
use Rattle.cases.proofs.Zipped.{all_zip_of}
use Rattle.cases.proofs.recorded.same.Goals as goal

pub returns-then-numbers-values : goal.returns-then-numbers-values
returns-then-numbers-values g c =
    let number_of = g.T.Recorded.number_of in
    all_zip_of (λ n v. number_of v ≡ Some n) _ _ _ (search (rules, tests))
    (cases_from_all c.all.new.self _ _ (λ p. number_of p.1 ≡ Some p.0) (λ p. number_of p.1 ≢ Some p.0) c.all.ensures.ran
    (YieldsList-from_zip (YieldsList-from_slice c.args.numbers.now cc) (YieldsList-from_slice c.args.values.now cc))
    (λ x q k. search (rules, tests)) (λ x q k. search (rules, tests)))

pub returns-else-numbers-values : goal.returns-else-numbers-values
returns-else-numbers-values g c =
    let long = AllZip-long (λ n v. g.T.Recorded.number_of v ≡ Some n) c.args.numbers.now c.args.values.now in
    grind (arith, long)

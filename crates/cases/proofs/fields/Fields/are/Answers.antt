use Rattle.std.proofs.Common.{◌≡◌, Some, take, length, arith, length-take}
use Rattle.std.proofs.lemmas.Slice.Zip.{AllZip-long}
use Rattle.cases.proofs.fields.Fields.are.Goals as goal

pub returns-in-Err-clause-yes : goal.returns-in-Err-clause-yes
returns-in-Err-clause-yes g c =
    let long = AllZip-long (λ n v. g.T.Recorded.number_of v ≡ Some n) (take (length c.args.values.now) c.args.self.now.left.now) c.args.values.now in
    grind (arith, long, length-take)

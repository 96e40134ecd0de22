use Rattle.lp_scan.proofs.Covered.{first_of_all}
use Rattle.lp_scan.proofs.first.first_greatest.Goals as goal

pub returns : goal.returns
returns c =
    let all = c.args.all.now in
    first_of_all all.leaving.now all.cuts.now c.take_all.result c.take_all.ensures

use Rattle.std.proofs.Common.{◌∙◌, arith}
use Rattle.theory.specs.View.{successors_of}
use Rattle.cut_check.proofs.Walking.{certificates_more}
use Rattle.cut_check.proofs.acceptance.walk.check_certificates.Goals as goal

pub loop-r-preserved : goal.loop-r-preserved
loop-r-preserved g c =
    certificates_more c.args.here.now.pools.now.lists g.n c.args.here.now.subproblem.now.rows (successors_of c.args.here.now.node.now.successors c.args.here.now.node.now.successor_weights) c.loop-r.r c.args.list.now c.index-list-r.result c.requires.0 c.requires.1.0 (omega arith) c.index-list-r.is c.in_ok-check_certificate.ensures
    ∙ c.loop-r.invariant

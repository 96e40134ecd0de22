use Rattle.std.proofs.Common.{length, sym, ap, ◌∙◌, arith}
use Rattle.cut_make.specs.Sized.{Sized}
use Rattle.cut_make.proofs.ValidatedWithin.{within-sized}
use Rattle.cut_check.proofs.Accepted.{shaped-shape_fault}
use Rattle.cut_make.proofs.GivenNode.{Seen, seen}
use Rattle.cut_check.proofs.acceptance.checker.check_right.Goals as goal

pub check_count-requires : goal.check_count-requires
check_count-requires g c =
    let z : Sized c.args.here.now.pools.now.lists c.args.here.now.node.now c.args.here.now.subproblem.now c.args.here.now.low.now c.args.here.now.weights.now = c.requires.1 in
    let s : Seen c.args.here.now.weights.now c.args.here.now.node.now c.args.here.now.subproblem.now g.n = seen g.n c.args.here.now.node.now c.args.here.now.subproblem.now c.args.here.now.low.now c.args.here.now.high.now c.args.here.now.weights.now c.requires.0 z.count z.values in
    (sym s.count, (c.len.ensures ∙ sym (ap length s.rows), (c.len-2.ensures ∙ sym (s.successors_count z.successor_weights), omega (arith, z.count, z.realizations))))

pub check_certificates-requires : goal.check_certificates-requires
check_certificates-requires g c =
    let z : Sized c.args.here.now.pools.now.lists c.args.here.now.node.now c.args.here.now.subproblem.now c.args.here.now.low.now c.args.here.now.weights.now = c.requires.1 in
    let s : Seen c.args.here.now.weights.now c.args.here.now.node.now c.args.here.now.subproblem.now g.n = seen g.n c.args.here.now.node.now c.args.here.now.subproblem.now c.args.here.now.low.now c.args.here.now.high.now c.args.here.now.weights.now c.requires.0 z.count z.values in
    let f = shaped-shape_fault g.n c.args.list.now c.in_ok-check_count.ensures in
    (s.rows, (s.successors, ((λ k d h. (let q = f.1 k d h in (q.0 ∙ ap length s.rows, q.1 ∙ s.successors_count z.successor_weights))), (omega (arith, f.0, s.count, z.count, z.realizations), within-sized c.args.here.now.pools.now.lists c.args.here.now.node.now c.args.here.now.subproblem.now c.args.here.now.low.now c.args.here.now.weights.now z))))

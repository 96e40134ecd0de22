use Rattle.std.proofs.Common.{sym, subst, ◌∙◌}
use Rattle.std.proofs.lemmas.Result.{err_from_is_err_and}
use Rattle.theory.specs.Problem.{Node}
use Rattle.cut_make.specs.Acceptance.{Accepts, shape_fault, certificates_fault, range_fault}
use Rattle.cut_make.specs.Sized.{Sized}
use Rattle.cut_check.proofs.Accepted.{none-or_then_fault, shaped-shape_fault, fault-right, fault-size}
use Rattle.cut_make.proofs.GivenNode.{Seen, seen}
use Rattle.cut_check.proofs.acceptance.checker.check.Goals as goal

pub returns-in_err-check_right : goal.returns-in_err-check_right
returns-in_err-check_right g c =
    let p = err_from_is_err_and c.from_residual.result c.from_residual.ensures.1 in
    rw (p.1, p.2) (fault-right c.args.here.now.pools.now.lists g.n c.args.list.now c.in_err-check_right.field-0.0 c.in_err-check_right.ensures)

pub check_range-requires-clause-list : goal.check_range-requires-clause-list
check_range-requires-clause-list g c =
    let z : Sized c.args.here.now.pools.now.lists c.args.here.now.node.now c.args.here.now.subproblem.now c.args.here.now.low.now c.args.here.now.weights.now = c.requires.1 in
    let s : Seen c.args.here.now.weights.now c.args.here.now.node.now c.args.here.now.subproblem.now g.n = seen g.n c.args.here.now.node.now c.args.here.now.subproblem.now c.args.here.now.low.now c.args.here.now.high.now c.args.here.now.weights.now c.requires.0 z.count z.values in
    let f = shaped-shape_fault g.n c.args.list.now (none-or_then_fault (shape_fault g.n c.args.list.now) (certificates_fault c.args.here.now.pools.now.lists g.n 0 c.args.list.now) c.in_ok-check_right.ensures).0 in
    f.0 ∙ s.count

pub returns : goal.returns
returns g c =
    let here = subst (λ (n : Node). Accepts c.check_range.result (range_fault c.args.here.now.pools.now.lists n c.args.list.now)) (sym c.requires.0) c.check_range.ensures in
    rw (fault-size c.args.here.now.pools.now.lists g.n c.args.list.now c.in_ok-check_right.ensures) here

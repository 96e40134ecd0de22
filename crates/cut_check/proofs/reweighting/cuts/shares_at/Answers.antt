use Rattle.std.proofs.Common.{List, Option, refl}
use Rattle.theory.specs.Problem.{node_at}
use Rattle.theory.specs.View.{problem_of}
use Rattle.cut_check.specs.declared.reweighting.shares.Share.{Share}
use Rattle.cut_check.specs.Shares.{SharesAt, SharesOf}
use Rattle.cut_make.proofs.PartsOfNode.{own_weighted}
use Rattle.cut_check.proofs.Reweighted.{if_ok, shares_by_parts}
use Rattle.cut_check.proofs.reweighting.cuts.shares_at.Goals as goal

pub shares_of-requires : goal.shares_of-requires
shares_of-requires c =
    let o = c.of-here.ensures.parts in
    (refl, (o.limits, o.sized))

pub returns : goal.returns
returns c =
    let p = c.args.problem.now in
    let h = c.of-here.result in
    let o = c.of-here.ensures in
    let is = own_weighted p c.args.node h.pools.now.lists c.own_weights.result.now h.weights.now h.node.now h.subproblem.now h.low.now h.high.now o.parts o.weights c.own_weights.ensures.own in
    if_ok (λ (s : Option (List Share)). SharesOf c.args.pools.now.lists h.node.now h.subproblem.now h.low.now h.high.now (node_at (problem_of p) c.args.node) c.args.list.now s) (SharesAt p c.args.node c.args.pools.now.lists c.args.list.now) c.shares_of.result
    (shares_by_parts p c.args.node c.args.pools.now.lists c.args.list.now h.node.now h.subproblem.now h.low.now h.high.now o.parts.the_node o.parts.the_subproblem o.parts.the_low o.parts.the_high)
    (rw (← is, ← o.pools) c.shares_of.ensures)

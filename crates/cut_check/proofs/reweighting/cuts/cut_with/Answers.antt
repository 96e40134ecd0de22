use Rattle.std.proofs.Common.{◌∙◌, List, Option, Some, subst}
use Rattle.theory.specs.Problem.{Node, node_at}
use Rattle.theory.specs.View.{problem_of}
use Rattle.cut_check.specs.declared.reweighting.shares.Share.{Share}
use Rattle.cut_check.specs.Shares.{SharesOf}
use Rattle.cut_check.proofs.Reweighted.{right-given, cut_wrong}
use Rattle.cut_check.proofs.reweighting.cuts.cut_with.Goals as goal

pub returns-in_default : goal.returns-in_default
returns-in_default c =
    let h = c.of-here.result in
    let o = c.of-here.ensures.parts in
    let k : Node = node_at (problem_of c.args.problem.now) c.args.node in
    cut_wrong c.args.pools.now.lists k c.args.list.now c.args.weights.now c.requires.weighs.count
    (subst (λ (s : Option (List Share)). SharesOf c.args.pools.now.lists h.node.now h.subproblem.now h.low.now h.high.now k c.args.list.now s) c.in_default.is (c.requires.shares h.node.now h.subproblem.now h.low.now h.high.now o.the_node o.the_subproblem o.the_low o.the_high))

pub cut_by-requires : goal.cut_by-requires
cut_by-requires c =
    let k : Node = node_at (problem_of c.args.problem.now) c.args.node in
    let h = c.of-here.result in
    let o = c.of-here.ensures in
    let of : SharesOf c.args.pools.now.lists h.node.now h.subproblem.now h.low.now h.high.now k c.args.list.now (Some c.in-Some.shares) =
    subst (λ (s : Option (List Share)). SharesOf c.args.pools.now.lists h.node.now h.subproblem.now h.low.now h.high.now k c.args.list.now s) c.in-Some.is (c.requires.shares h.node.now h.subproblem.now h.low.now h.high.now o.parts.the_node o.parts.the_subproblem o.parts.the_low o.parts.the_high) in
    record {
      limits = o.parts.limits;
      sized = o.parts.sized;
      states = o.parts.costs;
      right = rw (o.weights, o.pools, ← o.parts.is) (right-given c.args.pools.now.lists c.args.weights.now k c.args.list.now c.requires.weighs.count ∙ of.0);
      shares = rw (o.pools, c.as_slice.ensures) (of.1);
    }

pub returns : goal.returns
returns c =
    let o = c.of-here.ensures in
    rw (o.parts.is, ← o.weights, ← o.pools) c.cut_by.ensures

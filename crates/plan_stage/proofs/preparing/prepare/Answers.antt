use Rattle.std.proofs.Common.{◌≤◌, ◌∙◌, length, ap, arith}
use Rattle.problem.specs.declared.parts.ProblemParts.{ProblemParts}
use Rattle.problem.proofs.ValidatedFacts.{parts-is_validated, few_nodes}
use Rattle.plan_stage.proofs.preparing.prepare.Goals as goal

pub overflow_cast-nodes : goal.overflow_cast-nodes
overflow_cast-nodes c =
    let few : length c.args.problem.now.parts.nodes ≤ 1000 = few_nodes c.args.problem.now.parts (parts-is_validated c.args.problem.now c.parts.ensures.validated) in
    let len = c.len-nodes.ensures ∙ ap (λ (r : ProblemParts). length r.nodes) c.parts.ensures.value in
    grind (arith, few, len)

use Rattle.std.proofs.Common.{Result, sym, subst}
use Rattle.plan_answer.specs.declared.classifying.Infeasibility.{Infeasibility}
use Rattle.plan_answer.specs.Faults.{GivesOrRefutes}
use Rattle.theory.specs.View.{problem_of}
use Rattle.policy_evaluate.specs.Costs.{root_cost}
use Rattle.policy_evaluate.specs.PolicyTree.{decide_branch}
use Rattle.policy_evaluate.specs.declared.walking.Verdict.{Verdict}
use Rattle.policy_evaluate.proofs.Planned.{validated_there}
use Rattle.policy_evaluate.proofs.Whole.{sides_by_verdict, verdict_by_cost}
use Rattle.policy_evaluate.proofs.verdict.evaluate.Goals as goal

pub returns-clause-value : goal.returns-clause-value
returns-clause-value g c =
    let p = c.args.planner.now.problem.now in
    let v = g.V.Solver.does c.args.planner.now.solver.now in
    subst (λ (x : Result Verdict Infeasibility). GivesOrRefutes c.rounded.result x) (sym (verdict_by_cost v p (validated_there c.problem.ensures c.parts.ensures.validated) c.args.pools.now.lists))
    (c.rounded.ensures.value (root_cost (decide_branch v p c.args.pools.now.lists) (problem_of p) p.longest) c.whole_cost.ensures.value)

pub returns-clause-two_sided : goal.returns-clause-two_sided
returns-clause-two_sided g c =
    let p = c.args.planner.now.problem.now in
    let v = g.V.Solver.does c.args.planner.now.solver.now in
    sides_by_verdict v p (validated_there c.problem.ensures c.parts.ensures.validated) c.args.pools.now.lists c.requires.fit c.rounded.result
    (subst (λ (x : Result Verdict Infeasibility). GivesOrRefutes c.rounded.result x) (sym (verdict_by_cost v p (validated_there c.problem.ensures c.parts.ensures.validated) c.args.pools.now.lists))
    (c.rounded.ensures.value (root_cost (decide_branch v p c.args.pools.now.lists) (problem_of p) p.longest) c.whole_cost.ensures.value))

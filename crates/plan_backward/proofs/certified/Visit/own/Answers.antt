use Rattle.std.proofs.Common.{◌≡◌, ◌∙◌, [], List, ℤ, get_or, true, ap, sym, subst}
use Rattle.std.proofs.lemmas.List.{get_or_default}
use Rattle.problem.specs.declared.parts.ProblemParts.{ProblemParts}
use Rattle.problem.specs.Limits.{are_values}
use Rattle.problem.specs.Validated.{Validated, is_validated, subproblem_of}
use Rattle.plan_stage.specs.Orders.{node_values_at}
use Rattle.plan_backward.proofs.NodeValues.{values_here, values_read}
use Rattle.plan_backward.proofs.certified.Visit.own.Goals as goal

pub returns-clause-value : goal.returns-clause-value
returns-clause-value g c =
    let p : Validated = c.args.self.now.planner.now.problem.now in
    let parts = c.as_slice-nodes.ensures ∙ ap (λ (r : ProblemParts). r.nodes) c.parts.ensures.value ∙ ap (λ (q : Validated). q.parts.nodes) c.problem.ensures in
    let all = values_read p c.args.self.now.node c.as_slice-nodes.result.now c.index-nodes-self.result c.as_slice.result.now c.requires.known parts c.as_slice.ensures in
    c.as_slice-2.ensures ∙ c.index-as_slice-realization.is ∙ ap (λ (vs : List (List ℤ)). get_or vs c.args.realization c.index-as_slice-realization.result) all
    ∙ get_or_default (node_values_at p.parts c.args.self.now.node) c.args.realization c.index-as_slice-realization.result [] c.requires.there

pub returns-clause-fit : goal.returns-clause-fit
returns-clause-fit g c =
    let p : Validated = c.args.self.now.planner.now.problem.now in
    let validated = subst (λ (q : Validated). is_validated q ≡ true) c.problem.ensures c.parts.ensures.validated in
    subst (λ (own : List ℤ). are_values (subproblem_of p c.args.self.now.node) own ≡ true) (sym (returns-clause-value g c)) ((values_here p c.args.self.now.node validated c.requires.known).fit c.args.realization [] c.requires.there)

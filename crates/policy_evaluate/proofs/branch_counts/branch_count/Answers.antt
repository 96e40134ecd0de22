use Rattle.std.proofs.Common.{◌≡◌, ◌∙◌, ℕ, min, true, List, length, get_or, map, sum, sym, ap, ap₂, subst}
use Rattle.base_graph.specs.Paths.{are_known}
use Rattle.problem.specs.declared.parts.ProblemParts.{ProblemParts}
use Rattle.plan_draw.proofs.Draws.{root_known}
use Rattle.policy_evaluate.proofs.Standing.{branch_count_is}
use Rattle.policy_evaluate.proofs.branch_counts.branch_count.Goals as goal

pub sum_at-requires : goal.sum_at-requires
sum_at-requires c =
    let p = c.args.problem.now in
    let root = c.as_slice-root.ensures ∙ ap (λ (r : ProblemParts). r.root) c.parts.ensures.value in
    let count = ap (λ (ks : List ℕ). length ks) c.as_slice.ensures ∙ c.in_ok-table.ensures.count in
    subst (λ (k : ℕ). are_known k c.as_slice-root.result.now ≡ true) (sym count) (subst (λ (ks : List ℕ). are_known (length p.parts.nodes) ks ≡ true) (sym root) (root_known p c.parts.ensures.validated))

pub returns : goal.returns
returns c =
    let p = c.args.problem.now in
    let root = c.as_slice-root.ensures ∙ ap (λ (r : ProblemParts). r.root) c.parts.ensures.value in
    c.sum_at.ensures
    ∙ ap₂ (λ (table ks : List ℕ). min (sum (map (λ (m : ℕ). get_or table m 0) ks)) c.args.cap) c.as_slice.ensures root
    ∙ branch_count_is p c.parts.ensures.validated c.args.cap c.in_ok-table.table c.in_ok-table.ensures

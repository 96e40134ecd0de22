use Rattle.std.proofs.Common.{◌≡◌, ◌∙◌, ℕ, ◌*◌, ◌<◌, ◌≤◌, min, true, Contains, List, length, get_or, map, sum, sym, ap, ap₂, subst}
use Rattle.base_graph.specs.Paths.{are_known}
use Rattle.problem.specs.declared.parts.ProblemParts.{ProblemParts}
use Rattle.problem.specs.Formulas.{total_weight}
use Rattle.plan_draw.proofs.Draws.{root_known, root_weighty}
use Rattle.policy_evaluate.specs.Multiples.{lcm_all}
use Rattle.policy_evaluate.proofs.Ordered.{root_there}
use Rattle.policy_evaluate.proofs.Standing.{root_denominator_is, stands_some}
use Rattle.policy_evaluate.proofs.denominators.root_denominator.Goals as goal

pub multiple_at-common-requires-clause-known : goal.multiple_at-common-requires-clause-known
multiple_at-common-requires-clause-known c =
    let p = c.args.problem.now in
    let root = c.as_slice-2.ensures ∙ ap (λ (r : ProblemParts). r.root) c.parts-parts.ensures.value in
    let count = ap (λ (ks : List ℕ). length ks) c.as_slice.ensures ∙ c.in_ok-table.ensures.count in
    subst (λ (k : ℕ). are_known k c.as_slice-2.result.now ≡ true) (sym count) (subst (λ (ks : List ℕ). are_known (length p.parts.nodes) ks ≡ true) (sym root) (root_known p c.parts-parts.ensures.validated))

pub multiple_at-common-requires-clause-some : goal.multiple_at-common-requires-clause-some
multiple_at-common-requires-clause-some c = λ m listed.
    let p = c.args.problem.now in
    let validated = c.parts-parts.ensures.validated in
    let root = c.as_slice-2.ensures ∙ ap (λ (r : ProblemParts). r.root) c.parts-parts.ensures.value in
    let inside = root_there p validated m (subst (λ (ks : List ℕ). Contains ks m) root listed) in
    let table = c.in_ok-table.table in
    subst (λ (ks : List ℕ). 0 < get_or ks m 0) (sym c.as_slice.ensures) (stands_some p validated c.args.cap table m (get_or table m 0) c.requires inside (c.in_ok-table.ensures.each m inside))

pub total-weight-requires : goal.total-weight-requires
total-weight-requires c =
    let weights = c.as_slice-3.ensures ∙ ap (λ (r : ProblemParts). r.root_weights) c.parts-parts.ensures.value in
    subst (λ (ks : List ℕ). sum ks ≤ 65535) (sym weights) (root_weighty c.args.problem.now c.parts-parts.ensures.validated).total

pub returns : goal.returns
returns c =
    let p = c.args.problem.now in
    let cap = c.args.cap in
    let root = c.as_slice-2.ensures ∙ ap (λ (r : ProblemParts). r.root) c.parts-parts.ensures.value in
    let weights = c.as_slice-3.ensures ∙ ap (λ (r : ProblemParts). r.root_weights) c.parts-parts.ensures.value in
    let weight = c.from.ensures ∙ c.total-weight.ensures ∙ ap (λ (ks : List ℕ). total_weight ks) weights in
    let common = c.multiple_at-common.ensures ∙ ap₂ (λ (table ks : List ℕ). min (lcm_all 1 (map (λ (m : ℕ). get_or table m 0) ks)) cap) c.as_slice.ensures root in
    c.capped_product.ensures
    ∙ ap₂ (λ (a b : ℕ). min (a * b) cap) weight common
    ∙ root_denominator_is p c.parts-parts.ensures.validated cap c.in_ok-table.table c.requires c.in_ok-table.ensures

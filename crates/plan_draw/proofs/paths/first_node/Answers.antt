use Rattle.std.proofs.Common.{◌≡◌, ◌<◌, ◌≤◌, ℕ, List, length, sum, true, subst, sym, ap, ◌∙◌}
use Rattle.problem.specs.declared.parts.ProblemParts.{ProblemParts}
use Rattle.problem.specs.Limits.{are_weights}
use Rattle.plan_draw.proofs.Draws.{root_weighty, root_counted, first_is, first_inside}
use Rattle.plan_draw.proofs.paths.first_node.Goals as goal

pub pick-requires-clause-some : goal.pick-requires-clause-some
pick-requires-clause-some c =
    let weights : c.as_slice-2.result.now ≡ c.args.problem.now.parts.root_weights = c.as_slice-2.ensures ∙ ap (λ (r : ProblemParts). r.root_weights) c.parts-parts.ensures.value in
    subst (λ (ws : List ℕ). 0 < length ws) (sym weights) (root_weighty c.args.problem.now c.parts-parts.ensures.validated).some

pub pick-requires-clause-weights : goal.pick-requires-clause-weights
pick-requires-clause-weights c =
    let weights : c.as_slice-2.result.now ≡ c.args.problem.now.parts.root_weights = c.as_slice-2.ensures ∙ ap (λ (r : ProblemParts). r.root_weights) c.parts-parts.ensures.value in
    subst (λ (ws : List ℕ). are_weights ws ≡ true) (sym weights) (root_weighty c.args.problem.now c.parts-parts.ensures.validated).weights

pub pick-requires-clause-total : goal.pick-requires-clause-total
pick-requires-clause-total c =
    let weights : c.as_slice-2.result.now ≡ c.args.problem.now.parts.root_weights = c.as_slice-2.ensures ∙ ap (λ (r : ProblemParts). r.root_weights) c.parts-parts.ensures.value in
    subst (λ (ws : List ℕ). sum ws ≤ 65535) (sym weights) (root_weighty c.args.problem.now c.parts-parts.ensures.validated).total

pub bounds-as_slice-pick : goal.bounds-as_slice-pick
bounds-as_slice-pick c =
    let root : c.as_slice.result.now ≡ c.args.problem.now.parts.root = c.as_slice.ensures ∙ ap (λ (r : ProblemParts). r.root) c.parts-parts.ensures.value in
    let weights : c.as_slice-2.result.now ≡ c.args.problem.now.parts.root_weights = c.as_slice-2.ensures ∙ ap (λ (r : ProblemParts). r.root_weights) c.parts-parts.ensures.value in
    let count : length c.as_slice-2.result.now ≡ length c.as_slice.result.now = ap (λ (ws : List ℕ). length ws) weights ∙ root_counted c.args.problem.now c.parts-parts.ensures.validated ∙ sym (ap (λ (ms : List ℕ). length ms) root) in
    subst (λ (k : ℕ). c.pick.result < k) count c.pick.ensures.in_range

pub returns-clause-value : goal.returns-clause-value
returns-clause-value c =
    let root : c.as_slice.result.now ≡ c.args.problem.now.parts.root = c.as_slice.ensures ∙ ap (λ (r : ProblemParts). r.root) c.parts-parts.ensures.value in
    let weights : c.as_slice-2.result.now ≡ c.args.problem.now.parts.root_weights = c.as_slice-2.ensures ∙ ap (λ (r : ProblemParts). r.root_weights) c.parts-parts.ensures.value in
    let count : length c.as_slice-2.result.now ≡ length c.as_slice.result.now = ap (λ (ws : List ℕ). length ws) weights ∙ root_counted c.args.problem.now c.parts-parts.ensures.validated ∙ sym (ap (λ (ms : List ℕ). length ms) root) in
    first_is c.args.problem.now c.as_slice.result.now c.as_slice-2.result.now c.args.word c.pick.result root weights c.pick.ensures.value (subst (λ (k : ℕ). c.pick.result < k) count c.pick.ensures.in_range)

pub returns-clause-inside : goal.returns-clause-inside
returns-clause-inside c =
    let root : c.as_slice.result.now ≡ c.args.problem.now.parts.root = c.as_slice.ensures ∙ ap (λ (r : ProblemParts). r.root) c.parts-parts.ensures.value in
    let weights : c.as_slice-2.result.now ≡ c.args.problem.now.parts.root_weights = c.as_slice-2.ensures ∙ ap (λ (r : ProblemParts). r.root_weights) c.parts-parts.ensures.value in
    let count : length c.as_slice-2.result.now ≡ length c.as_slice.result.now = ap (λ (ws : List ℕ). length ws) weights ∙ root_counted c.args.problem.now c.parts-parts.ensures.validated ∙ sym (ap (λ (ms : List ℕ). length ms) root) in
    first_inside c.args.problem.now c.as_slice.result.now c.pick.result c.parts-parts.ensures.validated root (subst (λ (k : ℕ). c.pick.result < k) count c.pick.ensures.in_range)

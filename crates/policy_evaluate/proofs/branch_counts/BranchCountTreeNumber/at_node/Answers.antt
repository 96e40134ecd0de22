use Rattle.std.proofs.Common.{◌≡◌, ◌∙◌, ℕ, ◌+◌, ◌*◌, min, true, List, length, get_or, map, sum, sym, ap, ap₂, subst}
use Rattle.base_graph.specs.Paths.{are_known}
use Rattle.policy_evaluate.proofs.Seen.{seen}
use Rattle.policy_evaluate.proofs.Standing.{branches_stand}
use Rattle.policy_evaluate.proofs.branch_counts.BranchCountTreeNumber.at_node.Goals as goal

pub sum_at-behind-requires : goal.sum_at-behind-requires
sum_at-behind-requires c =
    let p = c.args.problem.now in
    let s = seen p c.args.node c.node-own.result.now c.parts.ensures.validated c.requires.known c.node-own.ensures in
    subst (λ (k : ℕ). are_known k c.as_slice.result.now ≡ true) (sym c.requires.counted) (subst (λ (ks : List ℕ). are_known (length p.parts.nodes) ks ≡ true) (sym c.as_slice.ensures) s.known)

pub returns : goal.returns
returns c =
    let at = λ (m : ℕ). get_or c.args.table.now m 0 in
    let value = c.capped_product.ensures ∙ ap₂ (λ (a b : ℕ). min (a * b) c.args.cap) c.len.ensures
    (c.capped_sum-each.ensures ∙ ap (λ (b : ℕ). min (1 + b) c.args.cap) (c.sum_at-behind.ensures ∙ ap (λ (ks : List ℕ). min (sum (map at ks)) c.args.cap) c.as_slice.ensures)) in
    branches_stand c.args.problem.now c.parts.ensures.validated c.args.cap c.args.table.now c.args.node c.requires.known c.node-own.result.now c.node-own.ensures c.requires.behind c.capped_product.result value

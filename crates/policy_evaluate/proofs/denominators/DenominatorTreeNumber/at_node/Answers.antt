use Rattle.std.proofs.Common.{◌≡◌, ◌∙◌, ℕ, ◌*◌, ◌≤◌, min, true, Contains, List, Option, IfSome, length, get_or, map, sum, sym, ap, ap₂, subst}
use Rattle.base_graph.specs.Paths.{are_known}
use Rattle.problem.specs.declared.parts.Node as nodes
use Rattle.problem.specs.Formulas.{successor_total, total_weight}
use Rattle.problem.specs.Parts.{successors_at}
use Rattle.policy_evaluate.specs.Multiples.{lcm_all}
use Rattle.policy_evaluate.proofs.Ordered.{led_there}
use Rattle.policy_evaluate.proofs.Seen.{successors_there, seen}
use Rattle.policy_evaluate.proofs.Standing.{denominators_stand, stands_some}
use Rattle.policy_evaluate.proofs.denominators.DenominatorTreeNumber.at_node.Goals as goal

pub multiple_at-common-requires-clause-known : goal.multiple_at-common-requires-clause-known
multiple_at-common-requires-clause-known c =
    let p = c.args.problem.now in
    let s = seen p c.args.node c.node-own.result.now c.parts.ensures.validated c.requires.known c.node-own.ensures in
    subst (λ (k : ℕ). are_known k c.as_slice.result.now ≡ true) (sym c.requires.counted) (subst (λ (ks : List ℕ). are_known (length p.parts.nodes) ks ≡ true) (sym c.as_slice.ensures) s.known)

pub multiple_at-common-requires-clause-some : goal.multiple_at-common-requires-clause-some
multiple_at-common-requires-clause-some c = λ m listed.
    let p = c.args.problem.now in
    let led : Contains (successors_at p.parts c.args.node) m = subst (λ (ks : List ℕ). Contains ks m) (c.as_slice.ensures ∙ sym (successors_there p c.args.node c.node-own.result.now c.node-own.ensures)) listed in
    stands_some p c.parts.ensures.validated c.args.cap c.args.table.now m (get_or c.args.table.now m 0) c.requires.cap (led_there p c.parts.ensures.validated c.args.node m led) (c.requires.behind m led)

pub total-requires : goal.total-requires
total-requires c =
    let s = seen c.args.problem.now c.args.node c.node-own.result.now c.parts.ensures.validated c.requires.known c.node-own.ensures in
    subst (λ (ks : List ℕ). sum ks ≤ 65535) (sym c.as_slice-2.ensures) s.light

pub returns : goal.returns
returns c =
    let p = c.args.problem.now in
    let cap = c.args.cap in
    let n = c.node-own.result.now in
    let at = λ (m : ℕ). get_or c.args.table.now m 0 in
    let successors : c.q.result ≡ successor_total n.stop n.successor_weights = subst (λ (o : Option nodes.Node). IfSome o (λ (k : nodes.Node). c.q.result ≡ successor_total k.stop k.successor_weights)) c.node-own.ensures c.q.ensures in
    let common = c.multiple_at-common.ensures ∙ ap (λ (ks : List ℕ). min (lcm_all 1 (map at ks)) cap) c.as_slice.ensures in
    let behind = c.capped_product-behind.ensures ∙ ap₂ (λ (a b : ℕ). min (a * b) cap) (c.from.ensures ∙ successors) common in
    let weight = c.from-2.ensures ∙ c.total.ensures ∙ ap (λ (ks : List ℕ). total_weight ks) c.as_slice-2.ensures in
    let value = c.capped_product.ensures ∙ ap₂ (λ (a b : ℕ). min (a * b) cap) weight behind in
    denominators_stand p c.parts.ensures.validated cap c.args.table.now c.args.node c.requires.known n c.node-own.ensures c.requires.cap c.requires.behind c.capped_product.result value

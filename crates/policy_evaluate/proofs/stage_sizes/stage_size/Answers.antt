use Rattle.std.proofs.Common.{◌∙◌, ℕ, ℤ, ◌+◌, min, nat_abs, List, map, SFits, w64, rules, ap, ap₂}
use Rattle.std.proofs.lemmas.Int.{to_z-of_z}
use Rattle.problem.specs.declared.parts.Decision.{Decision}
use Rattle.theory.specs.View.{node_of}
use Rattle.policy_evaluate.specs.TooBig.{reaches, sizes}
use Rattle.policy_evaluate.proofs.Sizing.{stage_cost_size-node_of}
use Rattle.policy_evaluate.proofs.stage_sizes.stage_size.Goals as goal

pub returns : goal.returns
unfolding node_of
returns c = λ n.
    let s = c.args.subproblem.now in
    let cap = c.args.cap in
    let low = c.args.lows.now in
    let high = c.args.highs.now in
    let fits : SFits w64 s.constant = search rules in
    let constant = c.unsigned_abs.ensures.value ∙ ap (λ (z : ℤ). nat_abs z) (to_z-of_z w64 s.constant fits) in
    let of_values = c.sizes-of_values.ensures ∙ ap (λ (cs : List ℤ). min (sizes cs c.args.values.now) cap) c.as_slice.ensures in
    let of_decisions = c.decision_reaches-of_decisions.ensures ∙ ap (λ (ds : List Decision). min (reaches (map (λ (d : Decision). d.cost) ds) (map (λ (d : Decision). d.low) ds) (map (λ (d : Decision). d.high) ds)) cap) c.as_slice-2.ensures in
    let of_states = c.state_reaches-of_states.ensures ∙ ap (λ (cs : List ℤ). min (reaches cs low high) cap) c.as_slice-3.ensures in
    let given = c.capped_sum-given.ensures ∙ ap₂ (λ (a b : ℕ). min (a + b) cap) constant of_values in
    let three = c.capped_sum.ensures ∙ ap₂ (λ (a b : ℕ). min (a + b) cap) given of_decisions in
    let all = c.capped_sum-2.ensures ∙ ap₂ (λ (a b : ℕ). min (a + b) cap) three of_states in
    stage_cost_size-node_of n s low high c.args.values.now cap c.capped_sum-2.result all

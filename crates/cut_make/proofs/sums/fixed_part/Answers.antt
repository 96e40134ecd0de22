use Rattle.std.proofs.Common.{ℤ, to_z, of_z, ◌∙◌}
use mir.Syntax.{w128}
use Rattle.std.specs.Int.{int_wrap}
use Rattle.theory.specs.declared.cut.Cut.{Cut}
use Rattle.cut_make.specs.Congruent.{Congruent}
use Rattle.cut_make.specs.Parts.{over_successors, least_at}
use Rattle.cut_make.proofs.Congruence.{same_add, same_read}
use Rattle.cut_make.proofs.sums.fixed_part.Goals as goal

pub returns-clause-value : goal.returns-clause-value
returns-clause-value c = λ k costs small.
    let h = c.args.here.now in
    let first : Cut → ℤ = λ (cut : Cut). cut.alpha in
    let p : ℤ = over_successors h.pools.now.lists h.node.now.successors c.args.certificate.now.cuts first in
    let l : ℤ = least_at k h.pools.now.lists h.node.now h.subproblem.now c.args.certificate.now in
    let least : Congruent (to_z w128 (of_z w128 c.least_sum-least.result)) l = same_read c.least_sum-least.result (record { sfits = c.least_sum-least.type_inv }) ∙ c.least_sum-least.ensures.value k costs small in
    let pairs : Congruent (to_z w128 (of_z w128 c.successor_constants-pairs.result)) p =
    same_read c.successor_constants-pairs.result (record { sfits = c.successor_constants-pairs.type_inv }) ∙ c.successor_constants-pairs.ensures ∙ (λ i. int_wrap w128 (over_successors h.pools.now.lists (c.as_slice.ensures i) (c.as_slice-2.ensures i) first)) in
    same_read c.wrapping_add.result (record { sfits = c.wrapping_add.type_inv }) ∙ c.wrapping_add.ensures ∙ same_add _ _ p l pairs least

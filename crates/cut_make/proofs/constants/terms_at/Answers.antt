use Rattle.std.proofs.Common.{ℕ, ℤ, pos, ◌*ℤ◌, List, SFits, w64, get_or, to_z, of_z, rules, ◌∙◌}
use mir.Syntax.{w128}
use Rattle.base_num.specs.Sums.{Term, entry}
use Rattle.cut_make.specs.Congruent.{Congruent}
use Rattle.cut_make.proofs.Congruence.{sum_step, same_times, same_read, same_wide}
use Rattle.cut_make.proofs.constants.terms_at.Goals as goal

pub loop-variable-preserved : goal.loop-variable-preserved
loop-variable-preserved c =
    let ts : List Term = c.args.terms.now in
    let i : ℕ = c.loop-variable.variable-index in
    let d : Term = get_or ts i (0, pos 0) in
    let v : ℤ = entry c.args.values.now d.0 in
    let fx : SFits w64 d.1 = search rules in
    let fy : SFits w64 v = search rules in
    let x : Congruent (to_z w128 (of_z w128 c.from.result)) d.1 = same_wide c.from.result d.1 (record { sfits = c.from.type_inv }) fx c.from.ensures in
    let y : Congruent (to_z w128 (of_z w128 c.from-in-loop-variable.result)) v = same_wide c.from-in-loop-variable.result v (record { sfits = c.from-in-loop-variable.type_inv }) fy c.from-in-loop-variable.ensures in
    sum_step (λ (t : Term). t.1 *ℤ entry c.args.values.now t.0) ts i (0, pos 0) (to_z w128 c.loop-variable.sum-bits) _ _ c.loop-variable-test.true c.loop-variable.invariant
    (same_read c.wrapping_add_product-sum.result (record { sfits = c.wrapping_add_product-sum.type_inv }) ∙ c.wrapping_add_product-sum.ensures)
    (same_times _ _ d.1 v x y)

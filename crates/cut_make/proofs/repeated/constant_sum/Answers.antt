use Rattle.std.proofs.Common.{◌≡◌, ℕ, ℤ, pos, ◌*ℤ◌, List, [], length, zip, get_or, to_z, of_z, refl, ap, ap₂, sym, subst, ◌∙◌}
use mir.Syntax.{w128}
use Rattle.std.specs.Int.{int_wrap}
use Rattle.std.proofs.lemmas.Int.{to_z-of_z}
use Rattle.std.proofs.lemmas.List.{length-map, get_or-map}
use Rattle.theory.specs.declared.cut.Certificate.{Certificate}
use Rattle.theory.specs.Problem.{Realization, Node, with_weights}
use Rattle.theory.specs.View.{node_of}
use Rattle.theory.specs.CutOf.{scale, alpha_at}
use Rattle.cut_make.specs.Congruent.{Congruent}
use Rattle.cut_make.specs.Parts.{ReducedFit, constant_at_scale, repeated}
use Rattle.cut_make.proofs.Congruence.{sum_step, sum_all, same_add, same_times, same_read}
use Rattle.cut_make.proofs.Viewed.{alpha-node_of}
use Rattle.cut_make.proofs.Weighted.{weighted_inside, weighted_all, weighted_at}
use Rattle.cut_make.proofs.repeated.constant_sum.Goals as goal

pub fixed_constant-fixed-requires-clause-small : goal.fixed_constant-fixed-requires-clause-small
unfolding node_of
fixed_constant-fixed-requires-clause-small c =
    let h = c.args.here.now in
    let factor : to_z w128 (of_z w128 c.scale-scale.result) ≡ scale (node_of h.node.now h.subproblem.now [] []) = to_z-of_z w128 c.scale-scale.result (record { sfits = c.scale-scale.type_inv }) ∙ c.scale-scale.ensures in
    subst (λ (k : ℤ). ReducedFit k h.pools.now.lists h.node.now h.subproblem.now c.args.certificate.now) (sym factor) c.requires.small

pub constant_over-constant-requires-clause-fixed : goal.constant_over-constant-requires-clause-fixed
constant_over-constant-requires-clause-fixed c = same_read c.fixed_constant-fixed.result (record { sfits = c.fixed_constant-fixed.type_inv }) ∙ c.fixed_constant-fixed.ensures

pub loop-r-preserved : goal.loop-r-preserved
unfolding node_of
loop-r-preserved c =
    let lists = c.args.here.now.pools.now.lists in
    let m : Node = node_of c.args.here.now.node.now c.args.here.now.subproblem.now [] [] in
    let n : Node = with_weights c.args.here.now.weights.now m in
    let list : List Certificate = repeated c.args.certificate.now c.args.here.now.weights.now in
    let each : length list ≡ length c.args.here.now.node.now.weights = length-map c.args.here.now.weights.now (λ (w : ℕ). c.args.certificate.now) ∙ c.requires.count in
    let r : ℕ = c.loop-r.r in
    let s : ℤ = to_z w128 c.loop-r.sum-bits in
    let certificate : Certificate = c.args.certificate.now in
    let own : List ℤ = c.index-as_slice-r.result in
    let w : ℕ = get_or c.args.here.now.weights.now r 0 in
    let v : List ℤ = get_or c.args.here.now.node.now.values r own in
    let d : Realization × Certificate = (record { weight = 0; values = own }, certificate) in
    let f : Realization × Certificate → ℤ = λ (q : Realization × Certificate). pos q.0.weight *ℤ alpha_at lists n q.0.values q.1 in
    let weight : Congruent (to_z w128 (of_z w128 c.from.result)) (pos w) = same_read c.from.result (record { sfits = c.from.type_inv }) ∙ ap (int_wrap w128) c.from.ensures in
    let factor : to_z w128 (of_z w128 c.scale-scale.result) ≡ scale m = to_z-of_z w128 c.scale-scale.result (record { sfits = c.scale-scale.type_inv }) ∙ c.scale-scale.ensures in
    let values : c.as_slice-values.result.now ≡ v = c.as_slice-values.ensures ∙ c.index-as_slice-r.is ∙ ap (λ (xs : List (List ℤ)). get_or xs r own) c.as_slice.ensures in
    let constant : Congruent (to_z w128 (of_z w128 c.constant_over-constant.result)) (alpha_at lists n v certificate) =
    same_read c.constant_over-constant.result (record { sfits = c.constant_over-constant.type_inv }) ∙ c.constant_over-constant.ensures
    ∙ ap₂ (λ (k : ℤ) (xs : List ℤ). int_wrap w128 (constant_at_scale k lists c.args.here.now.node.now c.args.here.now.subproblem.now xs certificate)) factor values
    ∙ ap (int_wrap w128) (sym (alpha-node_of c.args.here.now.node.now c.args.here.now.subproblem.now [] [] lists certificate c.requires.limits.successors v)) in
    let here : get_or (zip n.realizations list) r d ≡ (record { weight = w; values = v }, certificate) =
    weighted_at c.args.here.now.weights.now c.args.here.now.node.now.weights c.args.here.now.node.now.values list c.requires.count c.requires.limits.values each r d c.loop-r-test.true ∙ ap (λ (k : Certificate). (record { weight = w; values = v }, k)) (get_or-map (λ (w : ℕ). certificate) c.args.here.now.weights.now r 0 certificate c.loop-r-test.true) in
    sum_step f (zip n.realizations list) r d s _ (pos w *ℤ alpha_at lists n v certificate)
    (weighted_inside c.args.here.now.weights.now c.args.here.now.node.now.weights c.args.here.now.node.now.values list c.requires.count c.requires.limits.values each r c.loop-r-test.true) c.loop-r.invariant
    (same_read c.wrapping_add_product-sum.result (record { sfits = c.wrapping_add_product-sum.type_inv }) ∙ c.wrapping_add_product-sum.ensures ∙ same_add s _ s (pos w *ℤ alpha_at lists n v certificate) refl (same_times _ _ (pos w) (alpha_at lists n v certificate) weight constant))
    (ap (λ (q : Realization × Certificate). int_wrap w128 (f q)) (sym here))

pub returns : goal.returns
unfolding node_of
returns c = λ low high.
    let list : List Certificate = repeated c.args.certificate.now c.args.here.now.weights.now in
    let each : length list ≡ length c.args.here.now.node.now.weights = length-map c.args.here.now.weights.now (λ (w : ℕ). c.args.certificate.now) ∙ c.requires.count in
    let n : Node = with_weights c.args.here.now.weights.now (node_of c.args.here.now.node.now c.args.here.now.subproblem.now [] []) in
    sum_all (λ (q : Realization × Certificate). pos q.0.weight *ℤ alpha_at c.args.here.now.pools.now.lists n q.0.values q.1) (zip n.realizations list) c.loop-r.r (to_z w128 c.loop-r.sum-bits)
    (weighted_all c.args.here.now.weights.now c.args.here.now.node.now.weights c.args.here.now.node.now.values list c.requires.count c.requires.limits.values each c.loop-r.r c.loop-r-test.false) c.loop-r.invariant

use Rattle.std.proofs.Common.{◌≡◌, ℕ, ◌+◌, ◌<◌, ℤ, pos, ◌*ℤ◌, List, [], All, zip, get_or, length, to_z, of_z, arith, refl, rules, SFits, ap, ap₂, sym, subst, ◌∙◌}
use mir.Syntax.{w128}
use Rattle.std.specs.Int.{int_wrap}
use Rattle.base_num.specs.Sums.{entry}
use Rattle.theory.specs.declared.cut.Certificate.{Certificate}
use Rattle.theory.specs.Problem.{Realization, Node, with_weights}
use Rattle.theory.specs.View.{node_of}
use Rattle.theory.specs.CutOf.{alpha_at}
use Rattle.std.proofs.lemmas.Int.{to_z-of_z}
use Rattle.cut_make.specs.Congruent.{Congruent}
use Rattle.cut_make.specs.FixedParts.{fixed_at}
use Rattle.cut_make.specs.Parts.{ReducedFit, constant_at_scale}
use Rattle.cut_make.proofs.Congruence.{sum_step, sum_all, same_add, same_times, same_read}
use Rattle.cut_make.proofs.Viewed.{alpha-node_of}
use Rattle.cut_make.proofs.Remembered.{known_more}
use Rattle.cut_make.proofs.Weighted.{weighted_inside, weighted_all, weighted_at}
use Rattle.cut_make.proofs.sums.weighted_constants.Goals as goal

pub fixed_at-fixed-requires-clause-small : goal.fixed_at-fixed-requires-clause-small
unfolding node_of
fixed_at-fixed-requires-clause-small c =
    subst (λ (k : ℤ). All (ReducedFit k c.args.here.now.pools.now.lists c.args.here.now.node.now c.args.here.now.subproblem.now) c.args.list.now) (sym c.requires.scale) c.requires.small

pub constant_over-constant-requires-clause-fixed : goal.constant_over-constant-requires-clause-fixed
constant_over-constant-requires-clause-fixed c =
    let h = c.args.here.now in
    let k : ℤ = c.args.costs.now.scale in
    let own : Certificate = c.index-list-r.result in
    let fits : SFits w128 k = search rules in
    same_read c.fixed_at-fixed.result (record { sfits = c.fixed_at-fixed.type_inv }) ∙ c.fixed_at-fixed.ensures.value own
    ∙ ap₂ (λ (z : ℤ) (x : Certificate). int_wrap w128 (fixed_at z h.pools.now.lists h.node.now h.subproblem.now x)) (sym (to_z-of_z w128 k fits)) (sym c.index-list-r.is)

pub loop-r-preserved : goal.loop-r-preserved
unfolding node_of
loop-r-preserved c =
    let lists = c.args.here.now.pools.now.lists in
    let m : Node = node_of c.args.here.now.node.now c.args.here.now.subproblem.now [] [] in
    let n : Node = with_weights c.args.here.now.weights.now m in
    let r : ℕ = c.loop-r.r in
    let s : ℤ = to_z w128 c.loop-r.sum-bits in
    let certificate : Certificate = c.index-list-r.result in
    let own : List ℤ = c.index-as_slice-r.result in
    let w : ℕ = get_or c.args.here.now.weights.now r 0 in
    let fits : SFits w128 c.args.costs.now.scale = search rules in
    let v : List ℤ = get_or c.args.here.now.node.now.values r own in
    let d : Realization × Certificate = (record { weight = 0; values = own }, certificate) in
    let f : Realization × Certificate → ℤ = λ (q : Realization × Certificate). pos q.0.weight *ℤ alpha_at lists n q.0.values q.1 in
    let weight : Congruent (to_z w128 (of_z w128 c.from.result)) (pos w) = same_read c.from.result (record { sfits = c.from.type_inv }) ∙ ap (int_wrap w128) c.from.ensures in
    let values : c.as_slice-values.result.now ≡ v = c.as_slice-values.ensures ∙ c.index-as_slice-r.is ∙ ap (λ (xs : List (List ℤ)). get_or xs r own) c.as_slice.ensures in
    let constant : Congruent (to_z w128 (of_z w128 c.constant_over-constant.result)) (alpha_at lists n v certificate) =
    same_read c.constant_over-constant.result (record { sfits = c.constant_over-constant.type_inv }) ∙ c.constant_over-constant.ensures
    ∙ ap₂ (λ (k : ℤ) (xs : List ℤ). int_wrap w128 (constant_at_scale k lists c.args.here.now.node.now c.args.here.now.subproblem.now xs certificate)) (to_z-of_z w128 c.args.costs.now.scale fits ∙ c.requires.scale) values
    ∙ ap (int_wrap w128) (sym (alpha-node_of c.args.here.now.node.now c.args.here.now.subproblem.now [] [] lists certificate c.requires.limits.successors v)) in
    let here : get_or (zip n.realizations c.args.list.now) r d ≡ (record { weight = w; values = v }, certificate) =
    weighted_at c.args.here.now.weights.now c.args.here.now.node.now.weights c.args.here.now.node.now.values c.args.list.now c.requires.count c.requires.limits.values c.requires.list r d c.loop-r-test.true ∙ ap (λ (k : Certificate). (record { weight = w; values = v }, k)) (sym c.index-list-r.is) in
    record {
      count = omega (arith, c.fixed_at-fixed.ensures.count, c.loop-r.invariant.count);
      value = sum_step f (zip n.realizations c.args.list.now) r d s _ (pos w *ℤ alpha_at lists n v certificate)
          (weighted_inside c.args.here.now.weights.now c.args.here.now.node.now.weights c.args.here.now.node.now.values c.args.list.now c.requires.count c.requires.limits.values c.requires.list r c.loop-r-test.true) c.loop-r.invariant.value
          (same_read c.wrapping_add_product-sum.result (record { sfits = c.wrapping_add_product-sum.type_inv }) ∙ c.wrapping_add_product-sum.ensures ∙ same_add s _ s (pos w *ℤ alpha_at lists n v certificate) refl (same_times _ _ (pos w) (alpha_at lists n v certificate) weight constant))
          (ap (λ (q : Realization × Certificate). int_wrap w128 (f q)) (sym here));
      fixed =
          let at : ℕ → ℤ → Type 0 = λ q z. (d : Certificate) → Congruent z (fixed_at c.args.costs.now.scale lists c.args.here.now.node.now c.args.here.now.subproblem.now (get_or c.args.list.now q d)) in
          subst (λ (parts : List ℤ). (q : ℕ) → q < r + 1 → q < length parts → at q (entry parts q)) (sym c.keep.ensures)
          (known_more at c.loop-r.known r _ c.loop-r.invariant.fixed (λ d. same_read c.fixed_at-fixed.result (record { sfits = c.fixed_at-fixed.type_inv }) ∙ c.fixed_at-fixed.ensures.value d));
    }

pub returns : goal.returns
unfolding node_of
returns c = λ low high.
    let n : Node = with_weights c.args.here.now.weights.now (node_of c.args.here.now.node.now c.args.here.now.subproblem.now [] []) in
    sum_all (λ (q : Realization × Certificate). pos q.0.weight *ℤ alpha_at c.args.here.now.pools.now.lists n q.0.values q.1) (zip n.realizations c.args.list.now) c.loop-r.r (to_z w128 c.loop-r.sum-bits)
    (weighted_all c.args.here.now.weights.now c.args.here.now.node.now.weights c.args.here.now.node.now.values c.args.list.now c.requires.count c.requires.limits.values c.requires.list c.loop-r.r c.loop-r-test.false) c.loop-r.invariant.value

use Rattle.std.proofs.Common.{◌≡◌, ◌+◌, ◌*◌, ℕ, ℤ, pos, ◌-ℤ◌, ◌*ℤ◌, nat_abs, List, w64, to_z, of_z, ap, ◌∙◌}
use mir.Syntax.{w128}
use Rattle.std.proofs.lemmas.Int.{to_z-of_z}
use Rattle.base_num.specs.Sums.{entry, Term, at_terms}
use Rattle.theory.specs.CutOf.{side}
use Rattle.theory.specs.Problem.{S}
use Rattle.cut_make.specs.SizeByTerms.{terms_by, over_values}
use Rattle.plan_answer.specs.SizedSums.{Sums}
use Rattle.plan_answer.proofs.Viewed.{sums_same, scaled_value, scaled_size}
use Rattle.plan_answer.proofs.farkas.RightSidesRowPart.of.Goals as goal

pub returns : goal.returns
returns c =
    let x : List ℤ = c.args.self.now.state.now in
    let ts : List Term = c.as_slice.result.now in
    let l : ℤ = side c.args.row.now c.args.multiplier -ℤ at_terms c.args.row.now.randoms (entry c.args.self.now.values.now) in
    let ls : ℕ = nat_abs (side c.args.row.now c.args.multiplier) + terms_by (over_values c.args.self.now.values.now) c.args.row.now.randoms in
    let f : to_z w128 (of_z w128 c.scale.result) ≡ pos S = to_z-of_z w128 c.scale.result (record { sfits = c.scale.type_inv }) ∙ c.scale.ensures in
    let m : to_z w64 (of_z w64 c.args.multiplier) ≡ c.args.multiplier = to_z-of_z w64 c.args.multiplier c.ranges.multiplier in
    let own : Sums c.level-level.result l ls =
    sums_same c.level-level.result _ _ _ _ (ap (λ (y : ℤ). side c.args.row.now y -ℤ at_terms c.args.row.now.randoms (entry c.args.self.now.values.now)) m)
    (ap (λ (y : ℤ). nat_abs (side c.args.row.now y) + terms_by (over_values c.args.self.now.values.now) c.args.row.now.randoms) m) c.level-level.ensures in
    let k = c.in_ok-side.ensures l ls own in
    let v : c.in_ok-side.side.value ≡ pos S *ℤ l = k.0 ∙ scaled_value _ _ l c.zero.ensures.value f in
    let n : c.in_ok-side.side.size.total ≡ S * ls = k.1 ∙ scaled_size _ ls _ c.zero.ensures.size f in
    sums_same c.minus.result _ _ _ _ (ap (λ (z : ℤ). z -ℤ at_terms ts (entry x)) v ∙ ap (λ (us : List Term). pos S *ℤ l -ℤ at_terms us (entry x)) c.as_slice.ensures)
    (ap (λ (z : ℕ). z + terms_by (over_values x) ts) n ∙ ap (λ (us : List Term). S * ls + terms_by (over_values x) us) c.as_slice.ensures)
    (c.minus.ensures (at_terms ts (entry x)) (terms_by (over_values x) ts) c.terms_sum.ensures)

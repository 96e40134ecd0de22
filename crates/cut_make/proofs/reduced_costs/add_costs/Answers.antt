use Rattle.std.proofs.Common.{◌≡◌, ℕ, ◌<◌, ◌≤◌, ℤ, pos, ◌+ℤ◌, ◌*ℤ◌, SFits, w64, List, map, get_or, to_z, of_z, rules, arith, ap, ap₂, sym, subst, ◌∙◌, take_all}
use mir.Syntax.{w128}
use Rattle.std.specs.Int.{int_wrap}
use Rattle.std.proofs.lemmas.Int.{to_z-of_z}
use Rattle.std.proofs.lemmas.List.{length-map, get_or-map}
use Rattle.base_num.specs.Sums.{entry}
use Rattle.problem.specs.declared.parts.Decision.{Decision}
use Rattle.cut_make.proofs.Tables.{tabled_as, number_more}
use Rattle.cut_make.proofs.reduced_costs.add_costs.Goals as goal

pub loop-j-preserved : goal.loop-j-preserved
loop-j-preserved c =
    let ds : List Decision = c.args.decisions.now in
    let xs : List ℤ = map (λ (d : Decision). d.cost) ds in
    let i : ℕ = c.loop-j.j in
    let d : Decision = c.index-decisions-j.result in
    let k : ℤ = to_z w128 (of_z w128 c.args.scale) in
    let own : Decision = get_or ds i d in
    let fits : SFits w64 own.cost = search rules in
    let cost : to_z w128 (of_z w128 c.from.result) ≡ own.cost = to_z-of_z w128 c.from.result (record { sfits = c.from.type_inv }) ∙ c.from.ensures ∙ to_z-of_z w64 own.cost fits in
    let here : own.cost ≡ entry xs i = sym (get_or-map (λ (e : Decision). e.cost) ds i d (pos 0) c.loop-j-test.true) in
    record {
      count = omega (arith, c.add_at.ensures.count, c.loop-j.invariant.count);
      value = λ f t. tabled_as _ _ c.add_at.new.sums
          (λ j. ap (int_wrap w128) (number_more xs i j (f j) k (to_z w128 (of_z w128 c.from.result)) (subst (λ (n : ℕ). i < n) (sym (length-map ds (λ (e : Decision). e.cost))) c.loop-j-test.true) (cost ∙ here)))
          (c.add_at.ensures.value _ (c.loop-j.invariant.value f t));
    }

pub returns-clause-value : goal.returns-clause-value
returns-clause-value c =
    let ds : List Decision = c.args.decisions.now in
    let xs : List ℤ = map (λ (d : Decision). d.cost) ds in
    λ f t. tabled_as _ _ c.loop-j.sums
    (λ j. ap₂ (λ (k : ℤ) (ys : List ℤ). int_wrap w128 (f j +ℤ k *ℤ entry ys j)) (to_z-of_z w128 c.args.scale c.ranges.scale) (take_all c.loop-j.j xs (subst (λ (n : ℕ). n ≤ c.loop-j.j) (sym (length-map ds (λ (d : Decision). d.cost))) c.loop-j-test.false)))
    (c.loop-j.invariant.value f t)

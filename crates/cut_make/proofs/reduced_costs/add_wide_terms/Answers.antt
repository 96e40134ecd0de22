use Rattle.std.proofs.Common.{◌≡◌, ℕ, ℤ, pos, ◌+ℤ◌, ◌*ℤ◌, SFits, w64, List, get_or, take, to_z, of_z, rules, arith, refl, ap, ap₂, ◌∙◌, take_all}
use mir.Syntax.{w128}
use Rattle.std.specs.Int.{int_wrap}
use Rattle.std.proofs.lemmas.Int.{to_z-of_z}
use Rattle.base_num.specs.Sums.{Term, same_place, coefficient}
use Rattle.cut_make.proofs.Tables.{tabled_as, more_times}
use Rattle.cut_make.proofs.reduced_costs.add_wide_terms.Goals as goal

pub loop-variable-preserved : goal.loop-variable-preserved
loop-variable-preserved c =
    let ts : List Term = c.args.terms.now in
    let i : ℕ = c.loop-variable.variable-index in
    let d : Term = get_or ts i (0, pos 0) in
    let m : ℤ = to_z w128 (of_z w128 c.args.multiplier) in
    let f64 : SFits w64 d.1 = search rules in
    let factor : to_z w128 (of_z w128 c.from.result) ≡ d.1 = to_z-of_z w128 c.from.result (record { sfits = c.from.type_inv }) ∙ c.from.ensures ∙ to_z-of_z w64 d.1 f64 in
    record {
      count = omega (arith, c.add_at.ensures.count, c.loop-variable.invariant.count);
      value = λ f t. tabled_as _ _ c.add_at.new.sums
          (λ j. ap (int_wrap w128)
          (ap (λ (b : ℤ). f j +ℤ m *ℤ coefficient (take i ts) j +ℤ m *ℤ (b *ℤ same_place d.0 j)) factor
          ∙ more_times (λ (t : Term). t.1 *ℤ same_place t.0 j) ts i (0, pos 0) (f j) m (d.1 *ℤ same_place d.0 j) c.loop-variable-test.true refl))
          (c.add_at.ensures.value _ (c.loop-variable.invariant.value f t));
    }

pub returns-clause-value : goal.returns-clause-value
returns-clause-value c = λ f t. tabled_as _ _ c.loop-variable.sums
    (λ j. ap₂ (λ (m : ℤ) (ts : List Term). int_wrap w128 (f j +ℤ m *ℤ coefficient ts j)) (to_z-of_z w128 c.args.multiplier c.ranges.multiplier) (take_all c.loop-variable.variable-index c.args.terms.now c.loop-variable-test.false))
    (c.loop-variable.invariant.value f t)

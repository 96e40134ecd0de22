use Rattle.std.proofs.Common.{◌≡◌, ℕ, ℤ, ◌+ℤ◌, ◌*ℤ◌, SFits, w64, List, to_z, of_z, rules, arith, ap, ap₂, ◌∙◌, take_all}
use mir.Syntax.{w128}
use Rattle.std.specs.Int.{int_wrap}
use Rattle.std.proofs.lemmas.Int.{to_z-of_z}
use Rattle.base_num.specs.Sums.{entry}
use Rattle.cut_make.proofs.Tables.{tabled_as, number_more}
use Rattle.cut_make.proofs.slopes.add_numbers.Goals as goal

pub loop-k-preserved : goal.loop-k-preserved
loop-k-preserved c =
    let xs : List ℤ = c.args.numbers.now in
    let i : ℕ = c.loop-k.k in
    let fits : SFits w64 (entry xs i) = search rules in
    let number : to_z w128 (of_z w128 c.from.result) ≡ entry xs i = to_z-of_z w128 c.from.result (record { sfits = c.from.type_inv }) ∙ c.from.ensures ∙ to_z-of_z w64 (entry xs i) fits in
    record {
      count = omega (arith, c.add_at.ensures.count, c.loop-k.invariant.count);
      value = λ f t. tabled_as _ _ c.add_at.new.sums
          (λ j. ap (int_wrap w128) (number_more xs i j (f j) (to_z w128 (of_z w128 c.args.factor)) (to_z w128 (of_z w128 c.from.result)) c.loop-k-test.true number))
          (c.add_at.ensures.value _ (c.loop-k.invariant.value f t));
    }

pub returns-clause-value : goal.returns-clause-value
returns-clause-value c = λ f t. tabled_as _ _ c.loop-k.sums
    (λ j. ap₂ (λ (m : ℤ) (ys : List ℤ). int_wrap w128 (f j +ℤ m *ℤ entry ys j)) (to_z-of_z w128 c.args.factor c.ranges.factor) (take_all c.loop-k.k c.args.numbers.now c.loop-k-test.false))
    (c.loop-k.invariant.value f t)

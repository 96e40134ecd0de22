use Rattle.std.proofs.Common.{◌≡◌, ◌+◌, ◌*◌, ◌∙◌, ℕ, ℤ, List, nat_abs, length, get_or, min, ap, sym, arith, refl}
use Rattle.std.specs.List.{sum_by}
use Rattle.theory.specs.declared.cut.Certificate.{Certificate}
use Rattle.cut_check.proofs.Amounts.{pairs_more, take_pairs}
use Rattle.cut_check.proofs.size.tally.multipliers_sum.Goals as goal

pub loop-r-preserved : goal.loop-r-preserved
loop-r-preserved c =
    let f : ℕ × Certificate → ℕ = λ q. q.0 * sum_by nat_abs q.1.rows in
    let long : length c.args.weights.now ≡ min (length c.args.weights.now) (length c.args.list.now) = omega (arith, c.requires.list) in
    pairs_more f c.args.weights.now c.args.list.now c.loop-r.r 0 c.loop-r.sum _ _ 0 c.index-list-r.result c.index-list-r.result long c.loop-r-test.true refl c.index-list-r.is c.loop-r.invariant c.in_ok-sum.sum (c.in_ok-sum.ensures ∙ ap (λ (k : List ℤ). c.loop-r.sum + get_or c.args.weights.now c.loop-r.r 0 * sum_by nat_abs k) c.as_slice.ensures ∙ ap (λ (x : Certificate). c.loop-r.sum + get_or c.args.weights.now c.loop-r.r 0 * sum_by nat_abs x.rows) (sym c.index-list-r.is))

pub returns : goal.returns
returns c =
    let f : ℕ × Certificate → ℕ = λ q. q.0 * sum_by nat_abs q.1.rows in
    let long : length c.args.weights.now ≡ min (length c.args.weights.now) (length c.args.list.now) = omega (arith, c.requires.list) in
    c.loop-r.invariant ∙ ap (λ (z : List (ℕ × Certificate)). 0 + sum_by f z) (take_pairs c.args.weights.now c.args.list.now c.loop-r.r _ long c.loop-r-test.false) ∙ none _
  where
    none : (k : ℕ) → 0 + k ≡ k
    none k = omega arith

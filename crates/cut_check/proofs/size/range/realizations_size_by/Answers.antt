use Rattle.std.proofs.Common.{◌≡◌, ◌+◌, ℕ, ℤ, List, length, get_or, zip, ap, sym, subst, ◌∙◌, arith}
use Rattle.std.specs.List.{sum_by}
use Rattle.theory.specs.declared.cut.Certificate.{Certificate}
use Rattle.cut_make.specs.SizeByTerms.{AddsSize, certificate_amount, successors_amount, weighted_amount}
use Rattle.cut_check.proofs.Amounts.{take_pairs}
use Rattle.cut_check.proofs.Realizations.{counted, next}
use Rattle.cut_check.proofs.size.range.realizations_size_by.Goals as goal

pub returns-in_default : goal.returns-in_default
returns-in_default c =
    let more = next c.args.here.now.weights.now c.args.here.now.node.now.values c.args.list.now c.loop-r.r c.loop-r.size.total c.from.result c.index-values-r.result c.index-list-r.result (weighted_amount c.args.here.now.node.now c.args.here.now.subproblem.now c.args.here.now.low.now c.args.here.now.high.now c.args.here.now.pools.now.lists)
    (c.requires.sized.values ∙ sym c.requires.sized.count) c.requires.list c.loop-r-test.true c.from.ensures (c.index-values-r.is ∙ ap (λ (k : List (List ℤ)). get_or k c.loop-r.r c.index-values-r.result) c.as_slice-values.ensures) c.index-list-r.is c.loop-r.invariant.size in
    let out = c.in_default.ensures _ (subst (λ (k : List ℤ). AddsSize 0 c.realization_over-inner.result (certificate_amount c.args.here.now.node.now c.args.here.now.subproblem.now c.args.here.now.low.now c.args.here.now.high.now c.args.here.now.pools.now.lists (k, c.index-list-r.result))) c.as_slice.ensures c.realization_over-inner.ensures) in
    record {
      within = more.0;
      before = omega (arith, c.loop-r.size.in_range, c.loop-r.invariant.size);
      beyond = omega (arith, out, more.1);
    }

pub loop-r-preserved : goal.loop-r-preserved
loop-r-preserved c =
    let more = next c.args.here.now.weights.now c.args.here.now.node.now.values c.args.list.now c.loop-r.r c.loop-r.size.total c.from.result c.index-values-r.result c.index-list-r.result (weighted_amount c.args.here.now.node.now c.args.here.now.subproblem.now c.args.here.now.low.now c.args.here.now.high.now c.args.here.now.pools.now.lists)
    (c.requires.sized.values ∙ sym c.requires.sized.count) c.requires.list c.loop-r-test.true c.from.ensures (c.index-values-r.is ∙ ap (λ (k : List (List ℤ)). get_or k c.loop-r.r c.index-values-r.result) c.as_slice-values.ensures) c.index-list-r.is c.loop-r.invariant.size in
    record {
      size = c.in-Some.ensures _ (subst (λ (k : List ℤ). AddsSize 0 c.realization_over-inner.result (certificate_amount c.args.here.now.node.now c.args.here.now.subproblem.now c.args.here.now.low.now c.args.here.now.high.now c.args.here.now.pools.now.lists (k, c.index-list-r.result))) c.as_slice.ensures c.realization_over-inner.ensures) ∙ more.1;
      pairs = λ q more d.
          let same : c.loop-r.r ≡ q = omega (arith, more) in
          let s = c.args.here.now.subproblem.now in
          subst (λ (i : ℕ). AddsSize 0 c.pairs_at-pairs.result (successors_amount s.decisions s.outs c.args.here.now.pools.now.lists c.args.here.now.node.now.successors (get_or c.args.list.now i d).cuts)) same (c.pairs_at-pairs.ensures d);
    }

pub returns : goal.returns
returns c =
    let vs : List (List ℤ) = c.args.here.now.node.now.values in
    let f : ℕ × (List ℤ × Certificate) → ℕ = weighted_amount c.args.here.now.node.now c.args.here.now.subproblem.now c.args.here.now.low.now c.args.here.now.high.now c.args.here.now.pools.now.lists in
    let all = take_pairs c.args.here.now.weights.now (zip vs c.args.list.now) c.loop-r.r (length c.args.here.now.weights.now) (counted c.args.here.now.weights.now vs c.args.list.now (c.requires.sized.values ∙ sym c.requires.sized.count) c.requires.list) c.loop-r-test.false in
    let whole : c.loop-r.size.total ≡ 0 + sum_by f (zip c.args.here.now.weights.now (zip vs c.args.list.now)) = c.loop-r.invariant.size ∙ ap (λ (z : List (ℕ × (List ℤ × Certificate))). 0 + sum_by f z) all in
    omega (arith, whole)

use Rattle.std.proofs.Common.{◌≡◌, ◌+◌, ℕ, ℤ, List, length, get_or, zip, ap, sym, subst, ◌∙◌, arith}
use Rattle.std.specs.List.{sum_by}
use Rattle.std.proofs.lemmas.List.{length-map, get_or-map}
use Rattle.theory.specs.declared.cut.Certificate.{Certificate}
use Rattle.cut_make.specs.Parts.{repeated}
use Rattle.cut_make.specs.SizeByTerms.{AddsSize, certificate_amount, weighted_amount}
use Rattle.cut_check.proofs.Amounts.{take_pairs}
use Rattle.cut_check.proofs.Realizations.{counted, next}
use Rattle.cut_check.proofs.size.repeated.realizations_size_by.Goals as goal

pub returns-in-None : goal.returns-in-None
returns-in-None c =
    let more = next c.args.here.now.weights.now c.args.here.now.node.now.values (repeated c.args.certificate.now c.args.here.now.weights.now) c.loop-r.r c.loop-r.size.total c.from.result c.index-values-r.result c.args.certificate.now (weighted_amount c.args.here.now.node.now c.args.here.now.subproblem.now c.args.here.now.low.now c.args.here.now.high.now c.args.here.now.pools.now.lists)
    (c.requires.sized.values ∙ sym c.requires.sized.count) (length-map c.args.here.now.weights.now (λ (w : ℕ). c.args.certificate.now)) c.loop-r-test.true c.from.ensures (c.index-values-r.is ∙ ap (λ (k : List (List ℤ)). get_or k c.loop-r.r c.index-values-r.result) c.as_slice-values.ensures) (sym (get_or-map (λ (w : ℕ). c.args.certificate.now) c.args.here.now.weights.now c.loop-r.r 0 c.args.certificate.now c.loop-r-test.true)) c.loop-r.invariant in
    let out = c.in-None.ensures _ (subst (λ (k : List ℤ). AddsSize 0 c.realization_over-inner.result (certificate_amount c.args.here.now.node.now c.args.here.now.subproblem.now c.args.here.now.low.now c.args.here.now.high.now c.args.here.now.pools.now.lists (k, c.args.certificate.now))) c.as_slice.ensures c.realization_over-inner.ensures) in
    record {
      within = more.0;
      before = omega (arith, c.loop-r.size.in_range, c.loop-r.invariant);
      beyond = omega (arith, out, more.1);
    }

pub loop-r-preserved : goal.loop-r-preserved
loop-r-preserved c =
    let more = next c.args.here.now.weights.now c.args.here.now.node.now.values (repeated c.args.certificate.now c.args.here.now.weights.now) c.loop-r.r c.loop-r.size.total c.from.result c.index-values-r.result c.args.certificate.now (weighted_amount c.args.here.now.node.now c.args.here.now.subproblem.now c.args.here.now.low.now c.args.here.now.high.now c.args.here.now.pools.now.lists)
    (c.requires.sized.values ∙ sym c.requires.sized.count) (length-map c.args.here.now.weights.now (λ (w : ℕ). c.args.certificate.now)) c.loop-r-test.true c.from.ensures (c.index-values-r.is ∙ ap (λ (k : List (List ℤ)). get_or k c.loop-r.r c.index-values-r.result) c.as_slice-values.ensures) (sym (get_or-map (λ (w : ℕ). c.args.certificate.now) c.args.here.now.weights.now c.loop-r.r 0 c.args.certificate.now c.loop-r-test.true)) c.loop-r.invariant in
    c.in-Some.ensures _ (subst (λ (k : List ℤ). AddsSize 0 c.realization_over-inner.result (certificate_amount c.args.here.now.node.now c.args.here.now.subproblem.now c.args.here.now.low.now c.args.here.now.high.now c.args.here.now.pools.now.lists (k, c.args.certificate.now))) c.as_slice.ensures c.realization_over-inner.ensures) ∙ more.1

pub returns : goal.returns
returns c =
    let vs : List (List ℤ) = c.args.here.now.node.now.values in
    let f : ℕ × (List ℤ × Certificate) → ℕ = weighted_amount c.args.here.now.node.now c.args.here.now.subproblem.now c.args.here.now.low.now c.args.here.now.high.now c.args.here.now.pools.now.lists in
    let all = take_pairs c.args.here.now.weights.now (zip vs (repeated c.args.certificate.now c.args.here.now.weights.now)) c.loop-r.r (length c.args.here.now.weights.now) (counted c.args.here.now.weights.now vs (repeated c.args.certificate.now c.args.here.now.weights.now) (c.requires.sized.values ∙ sym c.requires.sized.count) (length-map c.args.here.now.weights.now (λ (w : ℕ). c.args.certificate.now))) c.loop-r-test.false in
    let whole : c.loop-r.size.total ≡ 0 + sum_by f (zip c.args.here.now.weights.now (zip vs (repeated c.args.certificate.now c.args.here.now.weights.now))) = c.loop-r.invariant ∙ ap (λ (z : List (ℕ × (List ℤ × Certificate))). 0 + sum_by f z) all in
    omega (arith, whole)

use Rattle.std.proofs.Common.{◌≡◌, ℕ, ◌<◌, ℤ, pos, ◌-ℤ◌, ◌*ℤ◌, List, [], length, zip, get_or, All, arith, ap, sym, subst, ◌∙◌, take_all}
use mir.Syntax.{w128}
use Rattle.std.specs.Int.{int_wrap}
use Rattle.base_num.specs.Sums.{total, coefficient}
use Rattle.problem.specs.declared.parts.Row.{Row}
use Rattle.theory.specs.declared.cut.Certificate.{Certificate}
use Rattle.theory.specs.Problem.{S, Realization, Node}
use Rattle.theory.specs.View.{node_of}
use Rattle.theory.specs.CutOf.{over_rows}
use Rattle.cut_make.specs.Sized.{Sized, unboxed}
use Rattle.cut_make.proofs.CutSlopes.{rows_inside}
use Rattle.cut_make.proofs.Tables.{tabled_as, more_taken}
use Rattle.cut_make.proofs.Weighted.{weighted_inside, weighted_all, weighted_at}
use Rattle.cut_make.proofs.slopes.take_certificates.Goals as goal

pub take_certificate-requires : goal.take_certificate-requires
take_certificate-requires c =
    let h = c.args.here.now in
    subst (λ (rows : List Row). All (λ (row : Row). All (λ (t : ℕ × ℤ). t.0 < length c.loop-r.sums) row.states) rows) (sym c.as_slice-rows.ensures)
    (rows_inside h.pools.now.lists h.node.now h.subproblem.now h.low.now h.weights.now c.requires.sized (length c.loop-r.sums) (omega (arith, c.loop-r.invariant.count, c.requires.table)))

pub loop-r-preserved : goal.loop-r-preserved
unfolding node_of
loop-r-preserved c =
    let h = c.args.here.now in
    let z : Sized h.pools.now.lists h.node.now h.subproblem.now h.low.now h.weights.now = c.requires.sized in
    let n : Node = unboxed h.weights.now h.node.now h.subproblem.now in
    let r : ℕ = c.loop-r.r in
    let certificate : Certificate = c.index-list-r.result in
    let w : ℕ = get_or h.weights.now r 0 in
    let d : Realization × Certificate = (record { weight = 0; values = [] }, certificate) in
    let all : List (Realization × Certificate) = zip n.realizations c.args.list.now in
    let each : length c.args.list.now ≡ length h.node.now.weights = c.requires.list ∙ z.count in
    let here : get_or all r d ≡ (record { weight = w; values = get_or h.node.now.values r [] }, certificate) =
    weighted_at h.weights.now h.node.now.weights h.node.now.values c.args.list.now z.count z.values each r d c.loop-r-test.true ∙ ap (λ (k : Certificate). (record { weight = w; values = get_or h.node.now.values r [] }, k)) (sym c.index-list-r.is) in
    record {
      count = omega (arith, c.take_certificate.ensures.count, c.loop-r.invariant.count);
      value = λ f t. tabled_as _ _ c.take_certificate.new.sums
          (λ k. let part : Realization × Certificate → ℤ = λ (q : Realization × Certificate). pos q.0.weight *ℤ (pos S *ℤ over_rows n q.1 (λ row y. coefficient row.states k)) in
          ap (int_wrap w128)
          (more_taken part all r d (f k) _ (weighted_inside h.weights.now h.node.now.weights h.node.now.values c.args.list.now z.count z.values each r c.loop-r-test.true)
          (ap (λ (rows : List Row). pos w *ℤ (pos S *ℤ total (λ (q : Row × ℤ). q.1 *ℤ coefficient q.0.states k) (zip rows certificate.rows))) c.as_slice-rows.ensures ∙ sym (ap part here))))
          (c.take_certificate.ensures.value _ (c.loop-r.invariant.value f t));
    }

pub returns-clause-value : goal.returns-clause-value
unfolding node_of
returns-clause-value c =
    let h = c.args.here.now in
    let z : Sized h.pools.now.lists h.node.now h.subproblem.now h.low.now h.weights.now = c.requires.sized in
    let n : Node = unboxed h.weights.now h.node.now h.subproblem.now in
    let all : List (Realization × Certificate) = zip n.realizations c.args.list.now in
    λ f t. tabled_as _ _ c.loop-r.sums
    (λ k. ap (λ (qs : List (Realization × Certificate)). int_wrap w128 (f k -ℤ total (λ (q : Realization × Certificate). pos q.0.weight *ℤ (pos S *ℤ over_rows n q.1 (λ row y. coefficient row.states k))) qs))
    (take_all c.loop-r.r all (weighted_all h.weights.now h.node.now.weights h.node.now.values c.args.list.now z.count z.values (c.requires.list ∙ z.count) c.loop-r.r c.loop-r-test.false)))
    (c.loop-r.invariant.value f t)

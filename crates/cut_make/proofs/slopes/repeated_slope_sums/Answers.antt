use Rattle.std.proofs.Common.{◌≡◌, ℕ, ◌<◌, ℤ, pos, ◌-ℤ◌, ◌*ℤ◌, [], ◌∷◌, List, length, zip, sum, All, arith, ap, ap₂, sym, subst, ◌∙◌}
use mir.Syntax.{w128}
use Rattle.std.specs.Int.{int_wrap}
use Rattle.base_num.specs.Sums.{total, entry, coefficient}
use Rattle.base_num.proofs.Ring.{ring, var, ◌⊕◌, ◌⊗◌, ⊖}
use Rattle.problem.specs.declared.parts.Row.{Row}
use Rattle.theory.specs.declared.cut.Certificate.{Certificate}
use Rattle.theory.specs.Problem.{S, Node}
use Rattle.theory.specs.View.{node_of}
use Rattle.theory.specs.CutOf.{scale, beta_at}
use Rattle.cut_make.specs.Sized.{Sized, unboxed}
use Rattle.cut_make.proofs.CutSlopes.{rows_inside, repeated_sum}
use Rattle.cut_make.proofs.Tables.{tabled_as, zeros}
use Rattle.cut_make.proofs.slopes.repeated_slope_sums.Goals as goal

shared : (w a b : ℤ) → w *ℤ a -ℤ w *ℤ b ≡ w *ℤ (a -ℤ b)
shared w a b = ring (w ∷ a ∷ b ∷ []) (var 0 ⊗ var 1 ⊕ ⊖ (var 0 ⊗ var 2)) (var 0 ⊗ (var 1 ⊕ ⊖ (var 2))) tt

pub take_certificate-requires : goal.take_certificate-requires
take_certificate-requires c =
    let h = c.args.here.now in
    subst (λ (rows : List Row). All (λ (row : Row). All (λ (t : ℕ × ℤ). t.0 < length c.add_weighted_costs.new.sums) row.states) rows) (sym c.as_slice.ensures)
    (rows_inside h.pools.now.lists h.node.now h.subproblem.now h.low.now h.weights.now c.requires.sized (length c.add_weighted_costs.new.sums) (omega (arith, c.add_weighted_costs.ensures.count)))

pub returns-clause-value : goal.returns-clause-value
unfolding node_of
returns-clause-value c =
    let h = c.args.here.now in
    let z : Sized h.pools.now.lists h.node.now h.subproblem.now h.low.now h.weights.now = c.requires.sized in
    let n : Node = unboxed h.weights.now h.node.now h.subproblem.now in
    let own : Certificate = c.args.certificate.now in
    tabled_as _ _ c.take_certificate.new.sums
    (λ k. let a : ℤ = scale n *ℤ entry h.subproblem.now.state_costs k in
    let part : Row × ℤ → ℤ = λ (q : Row × ℤ). q.1 *ℤ coefficient q.0.states k in
    ap (int_wrap w128)
    (ap₂ (λ (w : ℕ) (rows : List Row). pos (sum h.weights.now) *ℤ a -ℤ pos w *ℤ (pos S *ℤ total part (zip rows own.rows))) c.total-weight.ensures c.as_slice.ensures
    ∙ shared (pos (sum h.weights.now)) a (pos S *ℤ total part (zip h.subproblem.now.rows own.rows))
    ∙ sym (repeated_sum (λ (x : Certificate). beta_at n x k) own h.weights.now h.node.now.weights h.node.now.values z.count z.values)))
    (c.take_certificate.ensures.value _ (c.add_weighted_costs.ensures.value (zeros 50)))

use Rattle.std.proofs.Common.{pos, ◌*ℤ◌, ap, sym, ◌∙◌}
use mir.Syntax.{w128}
use Rattle.std.specs.Int.{int_wrap}
use Rattle.base_num.specs.Sums.{entry, coefficient}
use Rattle.theory.specs.declared.cut.Certificate.{Certificate}
use Rattle.theory.specs.Problem.{S, Node}
use Rattle.theory.specs.View.{node_of}
use Rattle.theory.specs.CutOf.{scale, over_rows}
use Rattle.cut_make.specs.Sized.{Sized, unboxed}
use Rattle.cut_make.proofs.CutSlopes.{split_sum}
use Rattle.cut_make.proofs.Tables.{tabled_as, zeros}
use Rattle.cut_make.proofs.slopes.slope_sums.Goals as goal

pub returns-clause-value : goal.returns-clause-value
unfolding node_of
returns-clause-value c =
    let h = c.args.here.now in
    let z : Sized h.pools.now.lists h.node.now h.subproblem.now h.low.now h.weights.now = c.requires.sized in
    let n : Node = unboxed h.weights.now h.node.now h.subproblem.now in
    tabled_as _ _ c.take_certificates.new.sums
    (λ k. ap (int_wrap w128) (sym (split_sum (scale n *ℤ entry h.subproblem.now.state_costs k) (λ (x : Certificate). pos S *ℤ over_rows n x (λ row y. coefficient row.states k)) h.weights.now h.node.now.weights h.node.now.values c.args.list.now z.count z.values (c.requires.list ∙ z.count))))
    (c.take_certificates.ensures.value _ (c.add_weighted_costs.ensures.value (zeros 50)))

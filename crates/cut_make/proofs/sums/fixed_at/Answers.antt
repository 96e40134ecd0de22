use Rattle.std.proofs.Common.{ℤ, ap, sym, subst, ◌∙◌}
use mir.Syntax.{w128}
use Rattle.std.specs.Int.{int_wrap}
use Rattle.std.proofs.lemmas.List.{get_or_default}
use Rattle.theory.specs.declared.cut.Certificate.{Certificate}
use Rattle.cut_make.specs.FixedParts.{fixed_at}
use Rattle.cut_make.specs.Parts.{ReducedFit, costs_at_scale}
use Rattle.cut_make.proofs.Congruence.{same_read}
use Rattle.cut_make.proofs.sums.fixed_at.Goals as goal

pub returns-clause-value : goal.returns-clause-value
returns-clause-value c = λ d.
    let h = c.args.here.now in
    let k : ℤ = c.args.costs.now.scale in
    let own : Certificate = c.index-list-realization.result in
    let small : ReducedFit k h.pools.now.lists h.node.now h.subproblem.now own =
    subst (ReducedFit k h.pools.now.lists h.node.now h.subproblem.now) (sym c.index-list-realization.is) (c.requires.small c.args.realization own c.requires.inside) in
    same_read c.fixed_part.result (record { sfits = c.fixed_part.type_inv })
    ∙ c.fixed_part.ensures.value k (c.copy_into.ensures.costs (costs_at_scale k h.subproblem.now) c.requires.costs.costs) small
    ∙ ap (λ (x : Certificate). int_wrap w128 (fixed_at k h.pools.now.lists h.node.now h.subproblem.now x)) (c.index-list-realization.is ∙ get_or_default c.args.list.now c.args.realization own d c.requires.inside)

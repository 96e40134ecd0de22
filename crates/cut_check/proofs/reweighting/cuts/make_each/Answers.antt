use Rattle.std.proofs.Common.{◌∙◌, List, ℕ, map, All, IfSome, Option, take_all, sym, ap, subst}
use Rattle.theory.specs.declared.cut.Cut.{Cut}
use Rattle.theory.specs.Fit.{CutFits}
use Rattle.theory.specs.Problem.{Node, node_at}
use Rattle.theory.specs.View.{problem_of}
use Rattle.cut_make.specs.Reweighting.{cut_with}
use Rattle.cut_check.proofs.Reweighted.{cuts_fit}
use Rattle.cut_check.proofs.reweighting.cuts.make_each.Goals as goal

pub returns-clause-fits : goal.returns-clause-fits
returns-clause-fits c =
    let p = c.args.problem.now in
    let k : Node = node_at (problem_of p) c.args.node in
    let made : List (List ℕ) → List (Option Cut) = map (cut_with c.args.pools.now.lists k c.args.list.now) in
    subst (λ (cuts : List (Option Cut)). All (λ (cut : Option Cut). IfSome cut (CutFits k)) cuts) (sym (c.loop-weights.invariant.so_far ∙ ap made (take_all c.loop-weights.weights-index c.args.lists.now c.loop-weights-test.false)))
    (cuts_fit p c.args.node c.parts.ensures.validated c.requires.known c.args.pools.now.lists c.args.list.now c.args.lists.now c.requires.weighs)

use Rattle.std.proofs.Common.{◌∙◌, ℤ, List, get_or, map, All, IfSome, None, Option, sym, ap, subst}
use Rattle.theory.specs.declared.cut.Cut.{Cut}
use Rattle.theory.specs.Problem.{Node, node_at}
use Rattle.theory.specs.View.{problem_of}
use Rattle.cut_pool.specs.Reaches.{CutReaches}
use Rattle.cut_make.specs.Reweighting.{cut_with}
use Rattle.policy_robust.specs.RiskCuts.{best_from, risk_cut_of}
use Rattle.policy_robust.proofs.Planned.{low_is}
use Rattle.policy_robust.proofs.Reaching.{some_reach}
use Rattle.policy_robust.proofs.candidates.risk_cut.Goals as goal

pub best_of-requires : goal.best_of-requires
best_of-requires c =
    let n : Node = node_at (problem_of c.args.problem.now) c.args.node in
    let low = low_is c.args.problem.now c.args.node c.lo.result.now c.parts.ensures.validated c.requires.known c.lo.ensures in
    record { reach = subst (λ (x : List ℤ). All (λ (cut : Option Cut). IfSome cut (CutReaches x)) c.in_ok-cuts.cuts) (sym low) (λ i d h. some_reach n (get_or c.in_ok-cuts.cuts i d) (c.in_ok-cuts.ensures.fits i d h)) }

pub returns : goal.returns
unfolding risk_cut_of
returns c =
    let n : Node = node_at (problem_of c.args.problem.now) c.args.node in
    let low = low_is c.args.problem.now c.args.node c.lo.result.now c.parts.ensures.validated c.requires.known c.lo.ensures in
    c.best_of.ensures ∙ ap (λ (cuts : List (Option Cut)). best_from c.lo.result.now None cuts) c.in_ok-cuts.ensures.value
    ∙ ap (λ (x : List ℤ). best_from x None (map (cut_with c.args.risk_cuts.now.lists n c.args.list.now) c.args.lists.now)) low

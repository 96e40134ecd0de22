use Rattle.std.proofs.Common.{◌≡◌, ◌∙◌, ℤ, List, [], ◌∷◌, All, IfSome, None, Option, sym, ap, subst, arith}
use Rattle.base_num.proofs.Sums.{All_head, All_tail}
use Rattle.theory.specs.declared.cut.Cut.{Cut}
use Rattle.cut_pool.specs.Reaches.{CutReaches}
use Rattle.policy_robust.specs.RiskCuts.{best_from}
use Rattle.policy_robust.proofs.Planned.{better_has, none_left}
use Rattle.policy_robust.proofs.candidates.best_of.Goals as goal

pub loop-cut-init : goal.loop-cut-init
loop-cut-init c =
    let all : c.into_iter-cut-iterator.result.rest.items ≡ c.args.cuts = c.into_iter-cut-iterator.ensures.into_iter_gives.0 ∙ c.into_vec-cut-items.ensures in
    record {
      so_far = ap (best_from c.args.state.now None) all;
      best = tt;
      left = subst (λ (cuts : List (Option Cut)). All (λ (cut : Option Cut). IfSome cut (CutReaches c.args.state.now)) cuts) (sym all) c.requires.reach;
    }

pub loop-cut-preserved : goal.loop-cut-preserved
loop-cut-preserved c =
    let x : List ℤ = c.args.state.now in
    let next : List (Option Cut) = c.next.new.self.rest.items in
    let one : c.loop-cut.cut-iterator.rest.items ≡ c.in-Some.cut ∷ next = c.in-Some.ensures.steps.0 in
    let left = subst (λ (cuts : List (Option Cut)). All (λ (cut : Option Cut). IfSome cut (CutReaches x)) cuts) one c.loop-cut.invariant.left in
    record {
      so_far = ap (λ (o : Option Cut). best_from x o next) c.better-best.ensures ∙ sym (ap (best_from x c.loop-cut.best) one) ∙ c.loop-cut.invariant.so_far;
      best = subst (λ (o : Option Cut). IfSome o (CutReaches x)) (sym c.better-best.ensures)
          (better_has (CutReaches x) x c.loop-cut.best c.in-Some.cut c.loop-cut.invariant.best (All_head (λ (cut : Option Cut). IfSome cut (CutReaches x)) c.in-Some.cut next left));
      left = All_tail (λ (cut : Option Cut). IfSome cut (CutReaches x)) c.in-Some.cut next left;
    }

pub returns : goal.returns
returns c =
    let none : c.loop-cut.cut-iterator.rest.items ≡ [] = none_left c.loop-cut.cut-iterator.rest.items (omega (arith, c.loop-cut.cut-iterator.rest.ok, c.in-None.ensures.steps.0)) in
    sym (ap (best_from c.args.state.now c.loop-cut.best) none) ∙ c.loop-cut.invariant.so_far

use Rattle.std.proofs.Common.{◌≡◌, All, IfSome, None, Option}
use Rattle.theory.specs.declared.cut.Cut.{Cut}
use Rattle.cut_pool.specs.Reaches.{CutReaches}
use Rattle.policy_robust.specs.RiskCuts.{best_from}
use Rattle.policy_robust.proofs.candidates.best_of.Given as goal

abbrev pub invariant-loop-cut : goal.invariant-loop-cut
invariant-loop-cut l = record {
  so_far : best_from l.state l.best l.cut-iterator.rest.items ≡ best_from l.state None l.fn.cuts;
  best : IfSome l.best (CutReaches l.state);
  left : All (λ (cut : Option Cut). IfSome cut (CutReaches l.state)) l.cut-iterator.rest.items;
}

use Rattle.std.proofs.Common.{◌≡◌, ◌+◌, ◌≤◌, ℕ, List, drop, map, min}
use Rattle.problem.specs.declared.parts.Decision.{Decision}
use Rattle.policy_evaluate.specs.TooBig.{reaches}
use Rattle.policy_evaluate.proofs.stage_sizes.decision_reaches.Given as goal

abbrev reaches_of : List Decision → ℕ
reaches_of ds = reaches (map (λ (d : Decision). d.cost) ds) (map (λ (d : Decision). d.low) ds) (map (λ (d : Decision). d.high) ds)

abbrev pub invariant-loop-decision : goal.invariant-loop-decision
invariant-loop-decision l = record {
  value : min (l.total + reaches_of (drop l.decision-index l.decisions)) l.cap ≡ min (reaches_of l.decisions) l.cap;
  small : l.total ≤ l.cap;
}

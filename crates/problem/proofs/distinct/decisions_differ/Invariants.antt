use Rattle.std.proofs.Common.{◌≡◌, drop}
use Rattle.std.specs.Str.{bytes_eq}
use Rattle.problem.specs.declared.parts.Decision.{Decision}
use Rattle.problem.specs.Distinct.{are_distinct}
use Rattle.problem.proofs.distinct.decisions_differ.Given as goal

abbrev pub invariant-loop-at : goal.invariant-loop-at
invariant-loop-at l = are_distinct (λ (a b : Decision). bytes_eq a.name b.name) (drop l.at l.decisions) ≡ are_distinct (λ (a b : Decision). bytes_eq a.name b.name) l.decisions

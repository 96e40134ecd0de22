use Rattle.std.proofs.Common.{◌≡◌, map, take}
use Rattle.problem.specs.declared.parts.State.{State}
use Rattle.problem.proofs.validated.initial_values.Given as goal

abbrev pub invariant-loop-state : goal.invariant-loop-state
invariant-loop-state l = l.found ≡ map (λ (s : State). s.initial) (take l.state-index l.states)

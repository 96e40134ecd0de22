use Rattle.std.proofs.Common.{◌≡◌, drop}
use Rattle.problem.specs.Limits.{steps_fit}
use Rattle.problem.proofs.scenarios.steps_fit.Given as goal

abbrev pub invariant-loop-step : goal.invariant-loop-step
invariant-loop-step l = steps_fit l.parts l.successors (drop l.step-index l.steps) ≡ steps_fit l.parts l.parts.root l.steps

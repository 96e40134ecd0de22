use Rattle.std.proofs.Common.{◌≡◌, map, take}
use Rattle.policy_simulate.specs.Runs.{moment_of}
use Rattle.policy_simulate.proofs.runs.moments_of.Given as goal

abbrev pub invariant-loop-step : goal.invariant-loop-step
invariant-loop-step l = l.run ≡ map (moment_of l.problem.parts) (take l.step-index l.path)

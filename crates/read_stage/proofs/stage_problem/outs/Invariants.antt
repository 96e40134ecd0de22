use Rattle.std.proofs.Common.{◌≡◌, take, map}
use Rattle.read_stage.specs.Subproblem.{decision_number_of}
use Rattle.read_stage.proofs.stage_problem.outs.Given as goal

abbrev pub invariant-loop-variable : goal.invariant-loop-variable
invariant-loop-variable l = l.found ≡ map (decision_number_of l.decisions) (take l.variable-index l.outgoing)

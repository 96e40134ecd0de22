use Rattle.std.proofs.Common.{◌≡◌, ◌++◌, drop}
use Rattle.read_stage.specs.Decisions.{decisions_from}
use Rattle.read_stage.proofs.decisions.all_decisions.Given as goal

abbrev pub invariant-loop-variable : goal.invariant-loop-variable
invariant-loop-variable l = l.found ++ decisions_from l.variable (drop l.variable l.roles) ≡ decisions_from 0 l.roles

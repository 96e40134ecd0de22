use Rattle.std.proofs.Common.{◌≡◌, map, take}
use Rattle.plan_stage.specs.Stage.{decision_column}
use Rattle.plan_stage.proofs.columns.decision_columns.Given as goal

abbrev pub invariant-loop-decision : goal.invariant-loop-decision
invariant-loop-decision l = l.found ≡ map (decision_column l.weight) (take l.decision-index l.decisions)

use Rattle.plan_stage.specs.Nodes.{IsStageAt}
use Rattle.test_measure.proofs.stage_parts.turned.Given as goal

abbrev pub invariant-loop-turn : goal.invariant-loop-turn
invariant-loop-turn l = IsStageAt l.problem 0 l.lp

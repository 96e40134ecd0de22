use Rattle.std.proofs.Common.{◌≡◌, map, zip, take}
use Rattle.plan_stage.specs.Nodes.{quarter}
use Rattle.plan_stage.proofs.references.quarters.Given as goal

abbrev pub invariant-loop-k : goal.invariant-loop-k
invariant-loop-k l = l.found ≡ map quarter (take l.k (zip l.low l.high))

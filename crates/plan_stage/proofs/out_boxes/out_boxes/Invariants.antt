use Rattle.std.proofs.Common.{◌≡◌, map}
use Rattle.std.specs.List.{range_with_len}
use Rattle.plan_stage.specs.OutBoxes.{out_box}
use Rattle.plan_stage.proofs.out_boxes.out_boxes.Given as goal

abbrev pub invariant-loop-state : goal.invariant-loop-state
invariant-loop-state l = l.found ≡ map (out_box l.subproblem) (range_with_len 0 l.state)

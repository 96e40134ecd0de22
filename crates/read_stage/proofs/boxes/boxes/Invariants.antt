use Rattle.std.proofs.Common.{◌≡◌, drop}
use Rattle.read_json.specs.Steps.{walk_list}
use Rattle.read_stage.specs.Boxes.{variable_box_at, boxes_at}
use Rattle.read_stage.proofs.boxes.boxes.Given as goal

abbrev pub invariant-loop-i : goal.invariant-loop-i
invariant-loop-i l = walk_list (variable_box_at l.variables l.p l.bounds l.costs) l.found l.i (drop l.i l.variables.names) ≡ boxes_at l.variables l.p l.bounds l.costs

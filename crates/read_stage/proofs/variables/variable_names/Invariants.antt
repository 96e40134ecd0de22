use Rattle.std.proofs.Common.{◌≡◌, drop}
use Rattle.serde_json.specs.View.{items_view}
use Rattle.read_json.specs.Steps.{walk_items}
use Rattle.read_stage.specs.Variables.{variable_at, names_at}
use Rattle.read_stage.proofs.variables.variable_names.Given as goal

abbrev pub invariant-loop-i : goal.invariant-loop-i
invariant-loop-i l = walk_items (variable_at l.p) l.found l.i (items_view (drop l.i l.items)) ≡ names_at l.p (items_view l.items)

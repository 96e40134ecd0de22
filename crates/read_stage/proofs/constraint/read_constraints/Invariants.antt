use Rattle.std.proofs.Common.{◌≡◌, drop}
use Rattle.serde_json.specs.View.{items_view}
use Rattle.read_json.specs.Steps.{walk_items}
use Rattle.read_stage.specs.Constraint.{constraint_at, constraints_at}
use Rattle.read_stage.proofs.constraint.read_constraints.Given as goal

abbrev pub invariant-loop-i : goal.invariant-loop-i
invariant-loop-i l = walk_items (constraint_at l.variables l.p) l.found l.i (items_view (drop l.i l.items)) ≡ constraints_at l.variables l.p (items_view l.items)

use Rattle.std.proofs.Common.{◌≡◌, drop}
use Rattle.serde_json.specs.View.{items_view}
use Rattle.read_json.specs.Steps.{walk_items}
use Rattle.read_file.specs.Scenarios.{scenario_step_at, path_at}
use Rattle.read_file.proofs.scenarios.read_path.Given as goal

abbrev pub invariant-loop-t : goal.invariant-loop-t
invariant-loop-t l = walk_items (scenario_step_at l.names l.parts l.k) l.path l.t (items_view (drop l.t l.items)) ≡ path_at l.names l.parts l.k (items_view l.items)

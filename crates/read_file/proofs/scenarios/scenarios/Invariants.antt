use Rattle.std.proofs.Common.{◌≡◌, drop}
use Rattle.serde_json.specs.View.{items_view}
use Rattle.read_json.specs.Steps.{walk_items}
use Rattle.read_file.specs.Scenarios.{scenario_at, scenarios_at}
use Rattle.read_file.proofs.scenarios.scenarios.Given as goal

abbrev pub invariant-loop-k : goal.invariant-loop-k
invariant-loop-k l = walk_items (scenario_at l.names l.parts) l.found l.k (items_view (drop l.k l.items)) ≡ scenarios_at l.names l.parts (items_view l.items)

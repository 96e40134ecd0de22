use Rattle.std.proofs.Common.{◌≡◌, drop}
use Rattle.serde_json.specs.View.{items_view}
use Rattle.read_json.specs.Steps.{walk_items}
use Rattle.hydro_read.specs.Stages.{hydro_stage_at, stages_at}
use Rattle.hydro_read.proofs.stages.stages.Given as goal

abbrev pub invariant-loop-t : goal.invariant-loop-t
invariant-loop-t l = walk_items (hydro_stage_at l.buses l.reservoirs) l.found l.t (items_view (drop l.t l.items)) ≡ stages_at l.buses l.reservoirs (items_view l.items)

use Rattle.std.proofs.Common.{refl}
use Rattle.hydro_make.specs.Made.{stage_node}
use Rattle.hydro_make.proofs.worked.worked_rows.Goals as goal

pub returns : goal.returns
unfolding stage_node
returns c = record { one_stage = refl; one_stage_cost = refl; one_stage_tree = refl; two_stages = refl; initial = refl; at_once = refl; spill_costs = refl; just_left = refl; under_way = refl; arrived = refl; arrived_at_once = refl }

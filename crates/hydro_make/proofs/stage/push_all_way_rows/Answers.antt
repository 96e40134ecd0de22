use Rattle.std.proofs.Common.{map}
use Rattle.serde_json.specs.View.{view}
use Rattle.hydro_make.specs.Stage as stage
use Rattle.hydro_form.proofs.Counted.{flat_joined}
use Rattle.hydro_make.proofs.stage.push_all_way_rows.Goals as goal

pub loop-j-preserved : goal.loop-j-preserved
loop-j-preserved c =
    flat_joined (stage.way_constraints c.args.plants.now) c.loop-j.j (map view c.args.list.now.items) (map view c.loop-j.list.items) _ c.in_ok-push_way_rows.ensures c.loop-j.invariant

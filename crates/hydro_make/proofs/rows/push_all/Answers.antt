use Rattle.std.proofs.Common.{map}
use Rattle.serde_json.specs.View.{view}
use Rattle.hydro_make.specs.Stage.{column_term}
use Rattle.hydro_make.specs.Parts.{sum_at}
use Rattle.hydro_form.proofs.Counted.{seen_joined}
use Rattle.hydro_make.proofs.rows.push_all.Goals as goal

pub loop-at-preserved : goal.loop-at-preserved
loop-at-preserved c =
    seen_joined (column_term c.args.plants.now) (sum_at c.args.plants.now c.args.part) c.loop-at.at (map view c.args.list.now.items) (map view c.loop-at.list.items) _ c.in_ok-push_part.ensures c.loop-at.invariant

use Rattle.std.proofs.Common.{map, [], ◌∷◌, ◌++◌, ap, ◌∙◌}
use Rattle.serde_json.specs.View.{view}
use Rattle.serde_json.specs.Data.{Data}
use Rattle.hydro_make.specs.Stage as stage
use Rattle.hydro_form.proofs.Counted.{pushed, map_joined}
use Rattle.hydro_make.proofs.stage.push_water_rows.Goals as goal

pub loop-j-preserved : goal.loop-j-preserved
loop-j-preserved c =
    map_joined (λ n. stage.zero_row c.args.plants.now (stage.water_sum c.args.plants.now n)) c.loop-j.j (map view c.args.list.now.items) (map view c.loop-j.list.items) _ (pushed view c.loop-j.list.items c.push.new.self.items c.in_ok-water_row.field-0 c.in_ok-push.ensures.items ∙ ap (λ (d : Data). map view c.loop-j.list.items ++ d ∷ []) c.in_ok-water_row.ensures) c.loop-j.invariant

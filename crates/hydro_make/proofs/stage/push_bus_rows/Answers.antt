use Rattle.std.proofs.Common.{map, [], ◌∷◌, ◌++◌, ap, ◌∙◌}
use Rattle.serde_json.specs.View.{view}
use Rattle.serde_json.specs.Data.{Data}
use Rattle.hydro_make.specs.Stage as stage
use Rattle.hydro_form.proofs.Counted.{pushed, map_joined}
use Rattle.hydro_make.proofs.stage.push_bus_rows.Goals as goal

pub loop-b-preserved : goal.loop-b-preserved
loop-b-preserved c =
    map_joined (λ n. stage.zero_row c.args.plants.now (stage.bus_sum c.args.plants.now n)) c.loop-b.b (map view c.args.list.now.items) (map view c.loop-b.list.items) _ (pushed view c.loop-b.list.items c.push.new.self.items c.in_ok-bus_row.field-0 c.in_ok-push.ensures.items ∙ ap (λ (d : Data). map view c.loop-b.list.items ++ d ∷ []) c.in_ok-bus_row.ensures) c.loop-b.invariant

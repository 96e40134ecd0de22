use Rattle.std.proofs.Common.{ℕ, map, [], ◌∷◌, ◌++◌, ap, ◌∙◌, arith}
use Rattle.serde_json.specs.View.{view}
use Rattle.serde_json.specs.Data.{Data}
use Rattle.hydro_make.specs.Stage as stage
use Rattle.hydro_form.proofs.Counted.{pushed}
use Rattle.hydro_make.proofs.Steps.{map_stepped}
use Rattle.hydro_make.proofs.stage.push_way_rows.Goals as goal

pub loop-k-preserved : goal.loop-k-preserved
loop-k-preserved c =
    map_stepped (λ k. stage.zero_row c.args.plants.now (stage.way_sum c.args.plants.now c.args.j k)) c.loop-k.k (map view c.args.list.now.items) (map view c.loop-k.list.items) _ (pushed view c.loop-k.list.items c.push.new.self.items c.in_ok-way_row.field-0 c.in_ok-push.ensures.items ∙ ap (λ (d : Data). map view c.loop-k.list.items ++ d ∷ []) c.in_ok-way_row.ensures ∙ ap (λ (n : ℕ). map view c.loop-k.list.items ++ stage.zero_row c.args.plants.now (stage.way_sum c.args.plants.now c.args.j n) ∷ []) (omega arith)) c.loop-k.invariant

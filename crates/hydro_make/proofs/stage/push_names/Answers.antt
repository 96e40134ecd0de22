use Rattle.std.proofs.Common.{ℕ, map, [], ◌∷◌, ◌++◌, ap, ◌∙◌, List}
use Rattle.serde_json.specs.View.{view}
use Rattle.serde_json.specs.Data.{string}
use Rattle.hydro_make.specs.Columns.{chance_name}
use Rattle.hydro_make.specs.Seen.{chance_of}
use Rattle.hydro_form.proofs.Counted.{map_joined}
use Rattle.hydro_make.proofs.stage.push_names.Goals as goal

pub loop-at-preserved : goal.loop-at-preserved
loop-at-preserved c =
    map_joined (λ n. string (chance_name c.args.plants.now (chance_of c.args.random n))) c.loop-at.at (map view c.args.list.now.items) (map view c.loop-at.list.items) _ (c.in_ok-push_text.ensures ∙ ap (λ (s : List ℕ). map view c.loop-at.list.items ++ string s ∷ []) c.in_ok-name.ensures) c.loop-at.invariant

use Rattle.std.proofs.Common.{◌∙◌, ◌++◌, map, sym, ap}
use Rattle.serde_json.specs.Data.{string}
use Rattle.serde_json.specs.View.{view}
use Rattle.hydro_make.specs.Layout.{inflow_of, demand_of, all_reservoirs, all_buses}
use Rattle.hydro_make.specs.Columns.{chance_name}
use Rattle.hydro_make.specs.Stage as stage
use Rattle.hydro_make.proofs.Steps.{map_parts}
use Rattle.hydro_make.proofs.stage.random_variables.Goals as goal

pub returns : goal.returns
unfolding stage.random_variables
returns c =
    let h = c.args.plants.now in
    c.in_ok-push_names-2.ensures ∙ ap (λ l. l ++ map (λ b. string (chance_name h (demand_of b))) (all_buses h)) (c.in_ok-push_names.ensures ∙ ap (λ xs. map view xs ++ map (λ j. string (chance_name h (inflow_of j))) (all_reservoirs h)) c.new-list.ensures.items)
    ∙ sym (map_parts (λ c. string (chance_name h c)) inflow_of demand_of (all_reservoirs h) (all_buses h))

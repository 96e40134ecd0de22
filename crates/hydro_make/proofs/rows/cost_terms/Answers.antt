use Rattle.std.proofs.Common.{◌∙◌, ◌++◌, map, sym, ap}
use Rattle.serde_json.specs.View.{view}
use Rattle.hydro_make.specs.declared.rows.Part.TheVariants as part
use Rattle.hydro_make.specs.Layout.{all_reservoirs, all_thermals, all_buses}
use Rattle.hydro_make.specs.Stage.{column_term, thermal_cost, deficit_cost, spill_cost_at, hydro_cost_sum}
use Rattle.hydro_make.specs.Parts.{part_sum}
use Rattle.hydro_make.proofs.Steps.{three_parts}
use Rattle.hydro_make.proofs.rows.cost_terms.Goals as goal

pub returns : goal.returns
unfolding hydro_cost_sum
returns c =
    let h = c.args.plants.now in
    c.in_ok-push_all-3.ensures
    ∙ ap (λ l. l ++ map (column_term h) (part_sum h part.SpillCost)) (c.in_ok-push_all-2.ensures
    ∙ ap (λ l. l ++ map (column_term h) (part_sum h part.DeficitCost)) (c.in_ok-push_all.ensures ∙ ap (λ xs. map view xs ++ map (column_term h) (part_sum h part.ThermalCost)) c.new-list.ensures.items))
    ∙ sym (three_parts (column_term h) (thermal_cost h) (deficit_cost h) (spill_cost_at h) (all_thermals h) (all_buses h) (all_reservoirs h))

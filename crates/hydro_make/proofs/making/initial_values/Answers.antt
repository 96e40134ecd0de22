use Rattle.std.proofs.Common.{map, ◌∙◌, ap}
use Rattle.serde_json.specs.Data.{Data, no_members}
use Rattle.hydro_form.specs.Listed.{put_by, integer}
use Rattle.hydro_form.proofs.Rises.{put_rising}
use Rattle.hydro_make.specs.Layout as layout
use Rattle.hydro_make.specs.Layout.{HydroStore}
use Rattle.hydro_make.specs.Columns.{state_name}
use Rattle.hydro_make.specs.Text.{hydro_initial_values}
use Rattle.hydro_make.specs.Seen.{seen_store}
use Rattle.hydro_make.proofs.Orders.{stores_rise}
use Rattle.hydro_make.proofs.making.initial_values.Goals as goal

pub returns : goal.returns
unfolding hydro_initial_values
returns c =
    let h = c.args.plants.now in
    let value : HydroStore → Data = λ s. integer (layout.store_initial h s) in
    c.in_ok-map.ensures ∙ ap (λ xs. put_by (state_name h) value xs no_members) (ap (map seen_store) c.as_slice.ensures.value ∙ c.in_ok-stores.ensures) ∙ put_rising (state_name h) value (layout.stores h) (stores_rise h c.requires)

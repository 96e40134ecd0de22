use Rattle.std.proofs.Common.{ℕ, ap, ◌∙◌}
use Rattle.serde_json.specs.View.{members_view}
use Rattle.base_num.specs.Sums.{entry}
use Rattle.base_graph.specs.Paths.{numbers}
use Rattle.hydro_form.specs.Listed.{put_by, integer}
use Rattle.hydro_make.specs.Layout.{inflow_of, demand_of}
use Rattle.hydro_make.specs.Columns.{chance_name}
use Rattle.hydro_make.proofs.Written.{support_put}
use Rattle.hydro_make.proofs.nodes.support.Goals as goal

pub returns : goal.returns
returns c =
    let h = c.args.plants.now in
    let demand = c.args.demand.now in
    let water = c.args.water.now in
    let first = members_view c.new-map.result.entries in
    let one = members_view c.put_values.new.map.entries in
    let two = members_view c.put_values-2.new.map.entries in
    support_put h c.requires.plants demand water first one two (ap members_view c.new-map.ensures.empty)
    (c.in_ok-put_values.ensures ∙ ap (λ (n : ℕ). put_by (λ b. chance_name h (demand_of b)) (λ b. integer (entry demand b)) (numbers n) first) c.requires.demand)
    (c.in_ok-put_values-2.ensures ∙ ap (λ (n : ℕ). put_by (λ j. chance_name h (inflow_of j)) (λ j. integer (entry water j)) (numbers n) one) c.requires.water)

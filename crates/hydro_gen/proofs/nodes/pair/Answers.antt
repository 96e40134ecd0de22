use Rattle.std.proofs.Common.{◌∙◌, ap, arith}
use Rattle.serde_json.specs.View.{view, members_view}
use Rattle.hydro_form.specs.Listed.{whole_data}
use Rattle.hydro_gen.specs.Nodes.{pair}
use Rattle.hydro_gen.proofs.Orders.{pair_put}
use Rattle.hydro_gen.proofs.nodes.pair.Goals as goal

pub returns : goal.returns
unfolding pair
returns c =
    pair_put c.args.first (whole_data c.args.dry) (whole_data c.args.wet) (members_view c.new-map.result.entries) (members_view c.put.new.map.entries) (members_view c.put-2.new.map.entries)
    c.text_of.result.now c.text_of-2.result.now (view c.from.result) (view c.from-2.result) (omega arith) (ap members_view c.new-map.ensures.empty) c.in_ok-put.ensures.ok c.in_ok-put-2.ensures.ok
    (c.text_of.ensures ∙ c.node_name-dry_name.ensures.value) (c.text_of-2.ensures ∙ c.node_name-wet_name.ensures.value) c.from.ensures c.from-2.ensures

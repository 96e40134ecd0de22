use Rattle.std.proofs.Common.{◌∙◌, arith}
use Rattle.serde_json.specs.View.{view, members_view}
use Rattle.hydro_make.specs.Nodes as nodes
use Rattle.hydro_make.proofs.Written.{node_put}
use Rattle.hydro_make.proofs.nodes.nodes.Goals as goal

pub loop-m-preserved : goal.loop-m-preserved
loop-m-preserved c =
    node_put (nodes.node c.args.plants.now) c.loop-m.m (members_view c.loop-m.map.entries) (members_view c.put.new.map.entries) c.text_of.result.now (view c.in_ok-value.value)
    (let few = c.requires.few_stages in omega arith) c.in_ok-put.ensures.ok (c.text_of.ensures ∙ c.node_name-name.ensures.value) c.in_ok-value.ensures c.loop-m.invariant

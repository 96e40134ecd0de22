use Rattle.std.proofs.Common.{◌≡◌}
use Rattle.serde_json.specs.View.{members_view}
use Rattle.hydro_make.specs.Nodes as nodes
use Rattle.hydro_form.specs.Listed.{members_from}
use Rattle.hydro_make.proofs.nodes.nodes.Given as goal

abbrev pub invariant-loop-m : goal.invariant-loop-m
invariant-loop-m l = members_view l.map.entries ≡ members_from nodes.node_name (nodes.node l.plants) 0 l.m

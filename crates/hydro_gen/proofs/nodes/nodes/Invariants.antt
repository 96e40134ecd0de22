use Rattle.std.proofs.Common.{◌*◌, ◌≡◌}
use Rattle.serde_json.specs.View.{members_view}
use Rattle.plan_draw.specs.Drawn.{word_in}
use Rattle.hydro_gen.specs.Names.{generated_node_name}
use Rattle.hydro_form.specs.Listed.{members_from}
use Rattle.hydro_gen.specs.Nodes.{generated_node}
use Rattle.hydro_gen.proofs.Streams.{at}
use Rattle.hydro_gen.proofs.nodes.nodes.Given as goal

abbrev pub invariant-loop-number : goal.invariant-loop-number
invariant-loop-number l = record {
  words : l.words ≡ at l.initial.words (l.number * (10 * l.reservoirs));
  members : members_view l.map.entries ≡ members_from generated_node_name (generated_node (word_in l.initial.words) l.stages l.reservoirs) 0 l.number;
}

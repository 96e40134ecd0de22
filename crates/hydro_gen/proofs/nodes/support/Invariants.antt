use Rattle.std.proofs.Common.{◌+◌, ◌≡◌}
use Rattle.serde_json.specs.View.{members_view}
use Rattle.plan_draw.specs.Drawn.{word_in}
use Rattle.hydro_form.specs.Listed.{members_from, whole_data}
use Rattle.hydro_gen.specs.Stage.{inflow_name}
use Rattle.hydro_gen.specs.Nodes.{inflow}
use Rattle.hydro_gen.proofs.Streams.{at}
use Rattle.hydro_gen.proofs.nodes.support.Given as goal

abbrev pub invariant-loop-reservoir : goal.invariant-loop-reservoir
invariant-loop-reservoir l = record {
  words : l.words ≡ at l.initial.words (l.initial.words.word_pos + l.reservoir);
  members : members_view l.map.entries ≡ members_from inflow_name (λ j. whole_data (inflow l.kind (word_in l.initial.words (l.initial.words.word_pos + j)))) 0 l.reservoir;
}

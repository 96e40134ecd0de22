use Rattle.std.proofs.Common.{◌≡◌, ◌+◌, ◌*◌, map}
use Rattle.serde_json.specs.View.{view}
use Rattle.base_graph.specs.Paths.{numbers}
use Rattle.plan_draw.specs.Drawn.{word_in}
use Rattle.hydro_gen.specs.Nodes.{generated_realization}
use Rattle.hydro_gen.proofs.Streams.{at}
use Rattle.hydro_gen.proofs.nodes.realizations.Given as goal

abbrev pub invariant-loop-k : goal.invariant-loop-k
invariant-loop-k l = record {
  words : l.words ≡ at l.initial.words (l.initial.words.word_pos + l._k * l.reservoirs);
  list : map view l.list.items ≡ map (λ k. generated_realization (word_in l.initial.words) (l.initial.words.word_pos + k * l.reservoirs) l.kind l.reservoirs) (numbers l._k);
}

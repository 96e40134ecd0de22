use Rattle.base_graph.proofs.Reached as lemmas
use Rattle.base_graph.proofs.laws.paths_of_any_length.Goals as goal

pub returns : goal.returns
returns c = record {
  path = lemmas.Reaches-reached;
  reached = lemmas.reached-Reaches;
  no_cycle = λ g m known l e r. lemmas.cycle_found g m known l r e;
}

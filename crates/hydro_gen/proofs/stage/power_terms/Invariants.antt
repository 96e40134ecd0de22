use Rattle.std.proofs.Common.{map, pos, ◌≡◌}
use Rattle.serde_json.specs.View.{view}
use Rattle.base_graph.specs.Paths.{numbers}
use Rattle.hydro_form.specs.Stage.{term}
use Rattle.hydro_gen.specs.Stage.{turbined}
use Rattle.hydro_gen.proofs.stage.power_terms.Given as goal

abbrev pub invariant-loop-reservoir : goal.invariant-loop-reservoir
invariant-loop-reservoir l = map view l.list.items ≡ map (λ j. term (pos 1) (turbined j)) (numbers l.reservoir)

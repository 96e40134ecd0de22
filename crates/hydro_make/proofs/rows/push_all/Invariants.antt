use Rattle.std.proofs.Common.{map, ◌++◌, ◌≡◌}
use Rattle.std.specs.List.{flat_map}
use Rattle.serde_json.specs.View.{view}
use Rattle.base_graph.specs.Paths.{numbers}
use Rattle.hydro_make.specs.Stage.{column_term}
use Rattle.hydro_make.specs.Parts.{sum_at}
use Rattle.hydro_make.proofs.rows.push_all.Given as goal

abbrev pub invariant-loop-at : goal.invariant-loop-at
invariant-loop-at l = map view l.list.items ≡ map view l.initial.list.items ++ map (column_term l.plants) (flat_map (sum_at l.plants l.part) (numbers l.at))

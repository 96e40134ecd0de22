use Rattle.std.proofs.Common.{map, ◌++◌, ◌≡◌}
use Rattle.serde_json.specs.View.{view}
use Rattle.base_graph.specs.Paths.{numbers}
use Rattle.serde_json.specs.Data.{string}
use Rattle.hydro_make.specs.Columns.{chance_name}
use Rattle.hydro_make.specs.Seen.{chance_of}
use Rattle.hydro_make.proofs.stage.push_names.Given as goal

abbrev pub invariant-loop-at : goal.invariant-loop-at
invariant-loop-at l = map view l.list.items ≡ map view l.initial.list.items ++ map (λ n. string (chance_name l.plants (chance_of l.random n))) (numbers l.at)

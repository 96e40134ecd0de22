use Rattle.std.proofs.Common.{map, ◌++◌, ◌≡◌}
use Rattle.serde_json.specs.View.{view}
use Rattle.hydro_make.specs.Stage as stage
use Rattle.hydro_make.specs.Layout.{steps}
use Rattle.hydro_make.proofs.stage.push_way_rows.Given as goal

abbrev pub invariant-loop-k : goal.invariant-loop-k
invariant-loop-k l = map view l.list.items ≡ map view l.initial.list.items ++ map (λ k. stage.zero_row l.plants (stage.way_sum l.plants l.j k)) (steps l.k)

use Rattle.std.proofs.Common.{◌≡◌}
use Rattle.serde_json.specs.View.{members_view}
use Rattle.base_graph.specs.Paths.{numbers}
use Rattle.hydro_make.specs.Columns.{chance_name}
use Rattle.hydro_make.specs.Seen.{chance_of}
use Rattle.hydro_form.specs.Listed.{put_by, integer}
use Rattle.base_num.specs.Sums.{entry}
use Rattle.hydro_make.proofs.nodes.put_values.Given as goal

abbrev pub invariant-loop-at : goal.invariant-loop-at
invariant-loop-at l = members_view l.map.entries ≡ put_by (λ n. chance_name l.plants (chance_of l.random n)) (λ n. integer (entry l.values n)) (numbers l.at) (members_view l.initial.map.entries)

use Rattle.std.proofs.Common.{map, ◌++◌, ◌≡◌}
use Rattle.std.specs.List.{flat_map}
use Rattle.base_graph.specs.Paths.{numbers}
use Rattle.hydro_make.specs.Layout as layout
use Rattle.hydro_make.specs.Seen.{seen_store}
use Rattle.hydro_make.proofs.columns.push_ways.Given as goal

abbrev pub invariant-loop-j : goal.invariant-loop-j
invariant-loop-j l = map seen_store l.list.items ≡ map seen_store l.initial.list.items ++ flat_map (layout.way_at l.plants l.away) (numbers l.j)

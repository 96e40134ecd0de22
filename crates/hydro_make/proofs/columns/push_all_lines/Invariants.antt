use Rattle.std.proofs.Common.{map, ◌++◌, ◌≡◌}
use Rattle.base_graph.specs.Paths.{numbers}
use Rattle.hydro_make.specs.Layout as layout
use Rattle.hydro_make.specs.Columns as columns
use Rattle.hydro_make.specs.Seen.{seen_column}
use Rattle.hydro_make.proofs.columns.push_all_lines.Given as goal

abbrev pub invariant-loop-l : goal.invariant-loop-l
invariant-loop-l l = map seen_column l.list.items ≡ map seen_column l.initial.list.items ++ map (λ i. columns.decided (layout.line_of i)) (numbers l.l)

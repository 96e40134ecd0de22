use Rattle.std.proofs.Common.{refl}
use Rattle.base_graph.specs.Paths.{reached, first_in_cycle, first_unreached}
use Rattle.base_graph.proofs.worked.worked_rows.Goals as goal

pub returns : goal.returns
unfolding reached first_in_cycle first_unreached
returns c = record {
  known = refl;
  unknown = refl;
  start = refl;
  two_steps = refl;
  backwards = refl;
  two_ways = refl;
  one_way = refl;
  into_cycle = refl;
  itself = refl;
  all_reached = refl;
  not_back = refl;
  aside = refl;
  no_starts = refl;
  no_nodes = refl;
}

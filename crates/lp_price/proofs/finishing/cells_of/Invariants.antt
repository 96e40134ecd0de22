use Rattle.std.proofs.Common.{◌≡◌, length, drop}
use Rattle.base_num.specs.Each.{each_from}
use Rattle.base_num.proofs.Each.{behind}
use Rattle.lp_price.specs.Finish.{cell_at}
use Rattle.lp_price.proofs.finishing.cells_of.Given as goal

abbrev pub invariant-loop-v : goal.invariant-loop-v
invariant-loop-v l = record {
  cells : each_from cell_at 0 l.rests ≡ behind l.found (each_from cell_at l.v (drop l.v l.rests));
  lengths : length l.found ≡ l.v;
}

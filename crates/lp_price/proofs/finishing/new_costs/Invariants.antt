use Rattle.std.proofs.Common.{◌≡◌, ◌++◌, length, drop}
use Rattle.lp_price.specs.Finish.{new_costs}
use Rattle.lp_price.proofs.finishing.new_costs.Given as goal

abbrev pub invariant-loop-j : goal.invariant-loop-j
invariant-loop-j l = record {
  costs : new_costs l.table l.costs 0 l.nonbasic ≡ l.found ++ new_costs l.table l.costs l.j (drop l.j l.nonbasic);
  lengths : length l.found ≡ l.j;
}

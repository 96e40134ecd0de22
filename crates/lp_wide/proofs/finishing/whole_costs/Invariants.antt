use Rattle.std.proofs.Common.{◌≡◌, ◌++◌, length, drop}
use Rattle.lp_wide.specs.Finish.{wide_whole_costs}
use Rattle.lp_wide.proofs.finishing.whole_costs.Given as goal

abbrev pub invariant-loop-j : goal.invariant-loop-j
invariant-loop-j l = record {
  costs : wide_whole_costs l.costs ≡ l.found ++ wide_whole_costs (drop l.j l.costs);
  lengths : length l.found ≡ l.j;
}

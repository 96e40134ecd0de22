use Rattle.std.proofs.Common.{◌≡◌, ◌++◌, length, drop}
use Rattle.lp_price.specs.Finish.{whole_costs}
use Rattle.lp_price.specs.Within.{AreWithin}
use Rattle.lp_price.proofs.finishing.whole_costs.Given as goal

abbrev pub invariant-loop-j : goal.invariant-loop-j
invariant-loop-j l = record {
  costs : whole_costs l.costs ≡ l.found ++ whole_costs (drop l.j l.costs);
  lengths : length l.found ≡ l.j;
  small : AreWithin 1 l.found;
}

use Rattle.std.proofs.Common.{◌≡◌, length, drop}
use Rattle.lp_wide.specs.Finish.{wide_less_places}
use Rattle.lp_wide.proofs.finishing.less_places.Given as goal

abbrev pub invariant-loop-j : goal.invariant-loop-j
invariant-loop-j l = record {
  rests : wide_less_places l.table 0 l.fn.rests l.nonbasic ≡ wide_less_places l.table l.j l.rests (drop l.j l.nonbasic);
  lengths : length l.rests ≡ length l.fn.rests;
}

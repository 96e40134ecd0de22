use Rattle.std.proofs.Common.{◌≡◌, ◌+◌, ◌*◌, length, drop}
use Rattle.lp_price.specs.Finish.{less_places}
use Rattle.lp_price.specs.Within.{AreWithin}
use Rattle.lp_price.proofs.finishing.less_places.Given as goal

abbrev pub invariant-loop-j : goal.invariant-loop-j
invariant-loop-j l = record {
  rests : less_places l.table 0 l.fn.rests l.nonbasic ≡ less_places l.table l.j l.rests (drop l.j l.nonbasic);
  lengths : length l.rests ≡ length l.fn.rests;
  within : AreWithin (1 + l.j * 1199) l.rests;
}

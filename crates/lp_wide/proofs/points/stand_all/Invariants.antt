use Rattle.std.proofs.Common.{◌≡◌, length, drop}
use Rattle.lp_wide.specs.Refine.{wide_stood}
use Rattle.lp_wide.proofs.points.stand_all.Given as goal

abbrev pub invariant-loop-j : goal.invariant-loop-j
invariant-loop-j l = record {
  count : length l.values ≡ length l.fn.values;
  values : wide_stood l.bounds l.high 0 l.nonbasic l.fn.values ≡ wide_stood l.bounds l.high l.j (drop l.j l.nonbasic) l.values;
}

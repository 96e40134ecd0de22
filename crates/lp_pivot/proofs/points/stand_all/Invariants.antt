use Rattle.std.proofs.Common.{◌≡◌, length, drop}
use Rattle.lp_pivot.specs.Refine.{stood}
use Rattle.lp_pivot.proofs.points.stand_all.Given as goal

abbrev pub invariant-loop-j : goal.invariant-loop-j
invariant-loop-j l = record {
  count : length l.values ≡ length l.fn.values;
  values : stood l.bounds l.high 0 l.nonbasic l.fn.values ≡ stood l.bounds l.high l.j (drop l.j l.nonbasic) l.values;
}

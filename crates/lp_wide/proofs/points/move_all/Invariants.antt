use Rattle.std.proofs.Common.{◌≡◌, length, take, drop}
use Rattle.base_num.specs.Each.{each_from}
use Rattle.base_num.proofs.Each.{behind}
use Rattle.lp_wide.specs.Refine.{wide_moved_value}
use Rattle.lp_wide.proofs.points.move_all.Given as goal

abbrev pub invariant-loop-v : goal.invariant-loop-v
invariant-loop-v l = record {
  count : length l.values ≡ length l.fn.values;
  moved : each_from (wide_moved_value l.places l.lines l.shifts) 0 l.fn.values ≡ behind (take l.v l.values) (each_from (wide_moved_value l.places l.lines l.shifts) l.v (drop l.v l.values));
}

use Rattle.std.proofs.Common.{◌≡◌, length, drop}
use Rattle.base_num.specs.Each.{each_from}
use Rattle.base_num.proofs.Each.{behind}
use Rattle.lp_wide.specs.Refine.{wide_shift_at}
use Rattle.lp_wide.proofs.points.shifts.Given as goal

abbrev pub invariant-loop-j : goal.invariant-loop-j
invariant-loop-j l = record {
  count : length l.found ≡ l.j;
  shifts : each_from (wide_shift_at l.table) 0 l.table.basis.nonbasic ≡ behind l.found (each_from (wide_shift_at l.table) l.j (drop l.j l.table.basis.nonbasic));
}

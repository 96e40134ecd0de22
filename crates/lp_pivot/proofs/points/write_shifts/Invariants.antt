use Rattle.std.proofs.Common.{◌≡◌, ◌≤◌, length, take, drop}
use Rattle.std.specs.Option.{option_map}
use Rattle.base_num.specs.Each.{each_from}
use Rattle.lp_pivot.specs.Refine.{shift_at, shifts_of}
use Rattle.lp_table.specs.Sparse.{sparse}
use Rattle.lp_pivot.proofs.Shifts.{kept}
use Rattle.lp_pivot.proofs.points.write_shifts.Given as goal

abbrev pub invariant-loop-j : goal.invariant-loop-j
invariant-loop-j l = record {
  lengths : length l.shifts ≡ length l.fn.shifts;
  few : l.count ≤ l.j;
  shifts : option_map (sparse 0) (shifts_of l.table) ≡ kept (take l.count l.shifts) l.j (each_from (shift_at l.table) l.j (drop l.j l.table.basis.nonbasic));
}

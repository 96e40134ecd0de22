use Rattle.std.proofs.Common.{◌≡◌, drop}
use Rattle.base_num.specs.Each.{each_from}
use Rattle.base_num.proofs.Each.{behind}
use Rattle.lp_wide.specs.Found.{wide_point_value_at}
use Rattle.lp_wide.proofs.found.point.Given as goal

abbrev pub invariant-loop-j : goal.invariant-loop-j
invariant-loop-j l = each_from (wide_point_value_at l.table) 0 l.columns ≡ behind l.found (each_from (wide_point_value_at l.table) l.j (drop l.j l.columns))

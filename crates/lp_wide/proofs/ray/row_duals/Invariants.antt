use Rattle.std.proofs.Common.{◌≡◌, drop}
use Rattle.base_num.specs.Each.{each_from}
use Rattle.base_num.proofs.Each.{behind}
use Rattle.lp_wide.specs.Ray.{wide_clipped_ray_dual}
use Rattle.lp_wide.proofs.ray.row_duals.Given as goal

abbrev pub invariant-loop-i : goal.invariant-loop-i
invariant-loop-i l = each_from (wide_clipped_ray_dual l.stuck.table.now l.stuck.line.now l.stuck.variable l.stuck.above l.top) 0 l.rows ≡ behind l.found (each_from (wide_clipped_ray_dual l.stuck.table.now l.stuck.line.now l.stuck.variable l.stuck.above l.top) l.i (drop l.i l.rows))

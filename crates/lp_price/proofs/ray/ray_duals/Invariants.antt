use Rattle.std.proofs.Common.{◌≡◌, drop}
use Rattle.base_num.specs.Each.{each_from}
use Rattle.base_num.proofs.Each.{behind}
use Rattle.lp_price.specs.Proves.{own_rows}
use Rattle.lp_price.specs.Ray.{clipped_ray_dual, ray_duals}
use Rattle.lp_price.proofs.ray.ray_duals.Given as goal

abbrev pub invariant-loop-i : goal.invariant-loop-i
invariant-loop-i l = ray_duals l.stuck.table.now l.stuck.line.now l.stuck.variable l.stuck.above l.lp l.top ≡ behind l.found (each_from (clipped_ray_dual l.stuck.table.now l.stuck.line.now l.stuck.variable l.stuck.above l.top) l.i (drop l.i (own_rows l.lp)))

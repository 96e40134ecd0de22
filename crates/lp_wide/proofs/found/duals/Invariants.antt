use Rattle.std.proofs.Common.{◌≡◌, drop}
use Rattle.base_num.specs.Each.{each_from}
use Rattle.base_num.proofs.Each.{behind}
use Rattle.lp_wide.specs.Found.{wide_dual_at}
use Rattle.lp_wide.proofs.found.duals.Given as goal

abbrev pub invariant-loop-i : goal.invariant-loop-i
invariant-loop-i l = each_from (wide_dual_at l.table) 0 l.rows ≡ behind l.found (each_from (wide_dual_at l.table) l.i (drop l.i l.rows))

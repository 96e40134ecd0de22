use Rattle.std.proofs.Common.{◌≡◌, ◌≤◌, nat_abs, None, IfSome, drop}
use Rattle.lp_wide.specs.Ray.{wide_greatest_from}
use Rattle.lp_wide.proofs.ray.greatest.Given as goal

abbrev pub invariant-loop-i : goal.invariant-loop-i
invariant-loop-i l = record {
  value : wide_greatest_from l.stuck.table.now l.stuck.line.now l.stuck.variable l.stuck.above 0 None l.exponents ≡ wide_greatest_from l.stuck.table.now l.stuck.line.now l.stuck.variable l.stuck.above l.i l.best (drop l.i l.exponents);
  small : IfSome l.best (λ b. nat_abs b ≤ 2000);
}

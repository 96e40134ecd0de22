use Rattle.std.proofs.Common.{◌≡◌, ◌++◌, drop}
use Rattle.plan_answer.specs.Settling.{row_multipliers_over}
use Rattle.plan_answer.proofs.settling.rows_over.Given as goal

abbrev pub invariant-loop-i : goal.invariant-loop-i
invariant-loop-i l = l.found ++ row_multipliers_over l.fn.divisor l.i (drop l.i l.rows) l.duals ≡ row_multipliers_over l.fn.divisor 0 l.rows l.duals

use Rattle.std.proofs.Common.{◌≤ℤ◌, take, All, IfSome}
use Rattle.lp_program.specs.declared.programs.LpRow.{LpRow}
use Rattle.test_golden.proofs.proper.have_values.Given as goal

abbrev pub invariant-loop-row : goal.invariant-loop-row
invariant-loop-row l = All (λ (r : LpRow). IfSome r.low (λ low. IfSome r.high (λ high. low.0 ≤ℤ high.0))) (take l.row-index l.rows)

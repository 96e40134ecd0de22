use Rattle.std.proofs.Common.{take, All}
use Rattle.lp_program.specs.declared.programs.LpRow.{LpRow}
use Rattle.lp_program.specs.Proper.{AreRising}
use Rattle.test_golden.proofs.proper.rise.Given as goal

abbrev pub invariant-loop-row : goal.invariant-loop-row
invariant-loop-row l = All (λ (r : LpRow). AreRising 0 l.columns r.terms) (take l.row-index l.rows)

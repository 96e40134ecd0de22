use Rattle.std.proofs.Common.{take, All}
use Rattle.lp_program.specs.Proper.{IsIdle}
use Rattle.test_golden.proofs.proper.are_idle.Given as goal

abbrev pub invariant-loop-column : goal.invariant-loop-column
invariant-loop-column l = All IsIdle (take l.column-index l.columns)

use Rattle.std.proofs.Common.{◌≡◌, take}
use Rattle.lp_program.proofs.stage_lp.StageLp.all_rows.Given as goal

abbrev pub invariant-loop-number : goal.invariant-loop-number
invariant-loop-number l = l.found ≡ take l.number l.fn.self.rows

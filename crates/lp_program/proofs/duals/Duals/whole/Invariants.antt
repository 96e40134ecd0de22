use Rattle.std.proofs.Common.{◌≡◌, take}
use Rattle.lp_program.proofs.duals.Duals.whole.Given as goal

abbrev pub invariant-loop-row : goal.invariant-loop-row
invariant-loop-row l = l.found ≡ take l.row l.fn.self

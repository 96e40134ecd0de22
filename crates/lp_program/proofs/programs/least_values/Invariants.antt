use Rattle.std.proofs.Common.{◌≡◌, take}
use Rattle.lp_program.specs.Answers.{lows_of}
use Rattle.lp_program.proofs.programs.least_values.Given as goal

abbrev pub invariant-loop-column : goal.invariant-loop-column
invariant-loop-column l = l.found ≡ lows_of (take l.column-index l.columns)

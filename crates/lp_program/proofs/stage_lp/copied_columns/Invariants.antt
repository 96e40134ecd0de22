use Rattle.std.proofs.Common.{◌≡◌, take}
use Rattle.lp_program.proofs.stage_lp.copied_columns.Given as goal

abbrev pub invariant-loop-column : goal.invariant-loop-column
invariant-loop-column l = l.found ≡ take l.column-index l.columns

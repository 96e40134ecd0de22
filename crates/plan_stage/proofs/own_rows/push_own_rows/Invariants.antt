use Rattle.std.proofs.Common.{◌≡◌, ◌++◌, map, take}
use Rattle.plan_stage.specs.Stage.{own_row}
use Rattle.plan_stage.proofs.own_rows.push_own_rows.Given as goal

abbrev pub invariant-loop-row : goal.invariant-loop-row
invariant-loop-row l = l.found ≡ l.initial.found ++ map (own_row l.values l.state) (take l.row-index l.rows)

use Rattle.std.proofs.Common.{◌≡◌, ◌+◌, ◌++◌, drop}
use Rattle.plan_stage.specs.Outs.{rows_over}
use Rattle.plan_stage.proofs.cut_rows.push_rows_over.Given as goal

abbrev pub invariant-loop-i : goal.invariant-loop-i
invariant-loop-i l = l.rows ++ rows_over l.outs l.pools.lists (l.column + l.i) (drop l.i l.successors) ≡ l.initial.rows ++ rows_over l.outs l.pools.lists l.column l.successors

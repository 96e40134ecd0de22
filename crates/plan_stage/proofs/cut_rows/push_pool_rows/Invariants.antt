use Rattle.std.proofs.Common.{◌≡◌, ◌++◌, map, take}
use Rattle.theory.specs.Pools.{pool}
use Rattle.plan_stage.specs.Outs.{row_over}
use Rattle.plan_stage.proofs.cut_rows.push_pool_rows.Given as goal

abbrev pub invariant-loop-place : goal.invariant-loop-place
invariant-loop-place l = l.rows ≡ l.initial.rows ++ map (row_over l.outs l.column) (take l.place (pool l.pools.lists l.successor))

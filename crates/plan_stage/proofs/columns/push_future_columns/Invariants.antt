use Rattle.std.proofs.Common.{◌≡◌, ◌++◌, ℕ, map, zip, take}
use Rattle.theory.specs.Pools.{pool}
use Rattle.plan_stage.specs.Stage.{future_column}
use Rattle.plan_stage.proofs.columns.push_future_columns.Given as goal

abbrev pub invariant-loop-i : goal.invariant-loop-i
invariant-loop-i l = l.columns ≡ l.initial.columns ++ map (λ (q : ℕ × ℕ). future_column l.subproblem q.1 (pool l.pools.lists q.0)) (take l.i (zip l.successors l.weights))

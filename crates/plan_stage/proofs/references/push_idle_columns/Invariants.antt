use Rattle.std.proofs.Common.{◌≡◌, ◌++◌, ℕ, map, take}
use Rattle.plan_stage.specs.Nodes.{idle_column}
use Rattle.plan_stage.proofs.references.push_idle_columns.Given as goal

abbrev pub invariant-loop : goal.invariant-loop
invariant-loop l = l.columns ≡ l.initial.columns ++ map (λ (m : ℕ). idle_column) (take l.index l.successors)

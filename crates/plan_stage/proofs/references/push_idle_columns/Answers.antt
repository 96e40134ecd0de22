use Rattle.std.proofs.Common.{ℕ, refl}
use Rattle.plan_stage.specs.Nodes.{idle_column}
use Rattle.plan_stage.proofs.Growing.{map_more}
use Rattle.plan_stage.proofs.references.push_idle_columns.Goals as goal

pub loop-preserved : goal.loop-preserved
loop-preserved c = map_more (λ (m : ℕ). idle_column) c.args.successors.now c.loop.index 0 c.args.columns.now c.loop.columns c.push.new.self idle_column c.loop-test.true c.loop.invariant refl c.in_ok-push.ensures

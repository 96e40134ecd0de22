use Rattle.std.proofs.Common.{◌≡◌}
use Rattle.plan_stage.proofs.preparing.prepare_at.Given as goal

abbrev pub invariant-loop-successor : goal.invariant-loop-successor
invariant-loop-successor l = l.pools ≡ l.initial.pools

use Rattle.std.proofs.Common.{vec_len}
use Rattle.cut_pool.proofs.spares.Spares.give_steps.Given as goal

abbrev pub decreases-loop-step : goal.decreases-loop-step
decreases-loop-step l = vec_len l.steps

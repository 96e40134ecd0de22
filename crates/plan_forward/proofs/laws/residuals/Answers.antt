use Rattle.plan_forward.proofs.MetRows.{residual_met, residual_some}
use Rattle.plan_forward.proofs.laws.residuals.Goals as goal

pub returns : goal.returns
returns c = record { met = residual_met; not_negative = residual_some }

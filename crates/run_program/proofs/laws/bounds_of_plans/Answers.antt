use Rattle.run_program.proofs.Plans.{plan_lines}
use Rattle.run_program.proofs.laws.bounds_of_plans.Goals as goal

pub returns : goal.returns
returns c = plan_lines

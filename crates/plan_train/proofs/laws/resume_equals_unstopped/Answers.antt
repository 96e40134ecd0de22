use Rattle.plan_train.proofs.Resumed.{resumed}
use Rattle.plan_train.proofs.laws.resume_equals_unstopped.Goals as goal

pub returns : goal.returns
returns g c = resumed (g.V.Solver.does c.args.solver.now)

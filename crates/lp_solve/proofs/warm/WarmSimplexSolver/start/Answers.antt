use Rattle.lp_solve.proofs.Likeness.{start_suits}
use Rattle.lp_solve.proofs.warm.WarmSimplexSolver.start.Goals as goal

pub returns-clause-suits : goal.returns-clause-suits
returns-clause-suits c = start_suits c.started.result c.args.lp.now c.started.ensures.suits

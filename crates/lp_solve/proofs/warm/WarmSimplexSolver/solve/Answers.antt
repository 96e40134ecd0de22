use Rattle.lp_solve.proofs.Likeness.{fits_others}
use Rattle.lp_solve.proofs.warm.WarmSimplexSolver.solve.Goals as goal

pub returns-clause-fits : goal.returns-clause-fits
returns-clause-fits c = λ other e. fits_others c.in_ok-answer.table c.args.lp.now other c.in_ok-answer.ensures.fits e

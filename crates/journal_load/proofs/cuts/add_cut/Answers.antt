use Rattle.cut_check.proofs.Fitting.{fit_for-fit}
use Rattle.journal_load.proofs.cuts.add_cut.Goals as goal

pub accept_into-requires-clause-fit : goal.accept_into-requires-clause-fit
accept_into-requires-clause-fit c = fit_for-fit c.args.problem.now c.args.pools.now.lists c.args.step.now.node c.parts.ensures.validated c.requires.known c.requires.fit

use Rattle.run_program.proofs.evaluating.verdict_of.Goals as goal

-- what the planner plans for is the problem and the solver that are given
pub evaluate-requires-clause-fit : goal.evaluate-requires-clause-fit
evaluate-requires-clause-fit g c κs within = rw c.new-planner.ensures.problem c.requires.fit

pub evaluate-requires-clause-small : goal.evaluate-requires-clause-small
evaluate-requires-clause-small g c κs within = rw c.new-planner.ensures.problem c.requires.small

pub returns-clause-value : goal.returns-clause-value
returns-clause-value g c = rw (c.new-planner.ensures.problem, c.new-planner.ensures.solver) at c.evaluate.ensures.value

pub returns-clause-two_sided : goal.returns-clause-two_sided
returns-clause-two_sided g c = rw c.new-planner.ensures.problem at c.evaluate.ensures.two_sided

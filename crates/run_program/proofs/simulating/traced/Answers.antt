use Rattle.run_program.proofs.simulating.traced.Goals as goal

-- what the planner plans for is the problem and the solver that are given
pub simulate-requires-clause-fit : goal.simulate-requires-clause-fit
simulate-requires-clause-fit g c κs within = rw c.new-planner.ensures.problem c.requires.fit

pub returns-in-Drawn-clause-value : goal.returns-in-Drawn-clause-value
returns-in-Drawn-clause-value g c = rw c.in-Drawn.is (rw (c.new-planner.ensures.problem, c.new-planner.ensures.solver) at c.simulate.ensures.value)

pub returns-in-Drawn-clause-known : goal.returns-in-Drawn-clause-known
returns-in-Drawn-clause-known g c = rw c.new-planner.ensures.problem at c.simulate.ensures.known

pub validate-requires-clause-fit : goal.validate-requires-clause-fit
validate-requires-clause-fit g c κs within = rw c.new-planner.ensures.problem c.requires.fit

use Rattle.run_worker.specs.Holding.{Holds}
use Rattle.run_worker.proofs.orders.serve.Given as goal

abbrev pub invariant-loop : goal.invariant-loop
invariant-loop g l = Holds l.task.problem.now l.task.batch l.held.found

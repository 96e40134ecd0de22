use Rattle.run_worker.specs.Holding.{Holds}
use Rattle.run_worker.proofs.rounds.join_one.Given as goal

abbrev pub invariant-loop-done : goal.invariant-loop-done
invariant-loop-done g l = Holds l.task.problem.now l.task.batch l.held.found

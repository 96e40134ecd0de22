use Rattle.std.proofs.Common.{◌≡◌}
use Rattle.run_worker.specs.Holding.{Holds}
use Rattle.run_worker.proofs.rounds.take_turns.Given as goal

abbrev pub invariant-loop-turn : goal.invariant-loop-turn
invariant-loop-turn g l = record {
  holds : Holds l.task.problem.now l.task.batch l.held.found;
  before : l.joining.before ≡ l.initial.joining.before;
}

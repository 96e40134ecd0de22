use Rattle.std.proofs.Common.{arith}
use Rattle.problem.proofs.ValidatedFacts.{parts-is_validated, few_nodes}
use Rattle.run_worker.proofs.rounds.join_parts.Goals as goal

pub counts-requires : goal.counts-requires
counts-requires g c =
    let few = few_nodes c.args.task.problem.now.parts (parts-is_validated c.args.task.problem.now c.parts.ensures.validated) in
    omega (arith, few, c.requires.gathered.sound.fit.lists)

use Rattle.run_program.proofs.Checks.{check_is_sound}
use Rattle.run_program.proofs.outcome.check.Goals as goal

pub returns-clause-sound : goal.returns-clause-sound
returns-clause-sound g c =
    (c.in_ok-loaded.loaded.pools.lists, check_is_sound c.args.accepted.bytes.now c.args.accepted.problem.now c.in_ok-loaded.loaded c.in_ok-text.text.items c.parts.ensures.validated c.in_ok-loaded.ensures.safe c.in_ok-text.ensures.text)

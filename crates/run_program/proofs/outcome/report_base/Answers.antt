use Rattle.run_program.proofs.Checks.{base_is_sound}
use Rattle.run_program.proofs.outcome.report_base.Goals as goal

pub returns-in-Ok-clause-sound : goal.returns-in-Ok-clause-sound
returns-in-Ok-clause-sound c = λ bytes. base_is_sound bytes c.args.problem.now c.args.pools.lists c.in-Ok.text.items c.parts.ensures.validated c.requires.fit c.requires.sound c.in-Ok.ensures

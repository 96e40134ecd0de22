use Rattle.run_program.proofs.Sounding.{sound_done}
use Rattle.run_program.proofs.over_bytes.run_over_memory.Goals as goal

pub returns : goal.returns
returns g c command is plans done = sound_done _ command _ _ is plans done c.run.ensures.sound

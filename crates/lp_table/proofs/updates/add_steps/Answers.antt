use Rattle.lp_table.proofs.Stepping.{steps_inside}
use Rattle.lp_table.proofs.updates.add_steps.Goals as goal

pub add_at-requires : goal.add_at-requires
add_at-requires c = steps_inside _ c.args.addend.now c.args.steps.now c.requires.lengths c.requires.steps

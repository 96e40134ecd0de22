use Rattle.std.proofs.Common.{◌∙◌, length, length-set, take, ap, arith}
use Rattle.lp_pivot.proofs.Arrivals.{take_first}
use Rattle.lp_pivot.proofs.moves.write_steps.Goals as goal

pub loop-k-init : goal.loop-k-init
loop-k-init c = record {
  lengths = ap length c.set.ensures ∙ length-set c.args.shifts.now 0 (c.args.place, c.args.step);
  steps = ap (take 1) c.set.ensures ∙ take_first c.args.shifts.now (c.args.place, c.args.step) (omega (arith, c.requires.room));
}

use Rattle.std.proofs.Common.{[], ap, refl, sym}
use Rattle.base_num.proofs.Each.{behind}
use Rattle.lp_pivot.specs.Standings.{standing_at}
use Rattle.lp_pivot.proofs.Standing.{each_some}
use Rattle.lp_pivot.proofs.standings.write_standings.Goals as goal

pub loop-j-init : goal.loop-j-init
loop-j-init c = record {
  count = refl;
  standings = sym (ap (behind []) (each_some (standing_at c.args.basis.now c.args.nonbasic.now c.args.reduced.now) 0 c.args.high.now));
}

use Rattle.std.proofs.Common.{sym, subst, arith}
use Rattle.std.proofs.lemmas.Grind.{common_steps}
use Rattle.lp_scale.proofs.Shapes.{on_ok}
use Rattle.lp_scan.specs.Values.{AreBestCuts}
use Rattle.lp_scan.proofs.Columns.{greatest_kept}
use Rattle.lp_scan.proofs.greatest.write_greatest.Goals as goal

pub returns-clause-cuts : goal.returns-clause-cuts
returns-clause-cuts c =
    on_ok c.take_all.result c.take_all.ensures.value (λ e. subst (AreBestCuts c.args.lp.now) (sym (grind (arith, common_steps, e, c.take_all.auto))) (greatest_kept c.args.lp.now c.args.waiting.now c.args.states.now c.requires.proper.own))

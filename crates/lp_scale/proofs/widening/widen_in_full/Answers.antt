use Rattle.std.proofs.Common.{length, sym, subst}
use Rattle.lp_scale.specs.Fitting.{AreNarrow}
use Rattle.lp_scale.proofs.Narrow.{full_narrow}
use Rattle.lp_scale.proofs.widening.widen_in_full.Goals as goal

pub widen_by-requires-clause-narrow : goal.widen_by-requires-clause-narrow
widen_by-requires-clause-narrow c = subst (AreNarrow c.args.lp.now) (sym c.in_ok-waiting.ensures) (full_narrow c.args.lp.now (length c.columns.result.now))

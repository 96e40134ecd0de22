use Rattle.std.proofs.Common.{subst, sym, take}
use Rattle.lp_scale.specs.Exponents.{ReachUpTo}
use Rattle.lp_scale.proofs.Passes.{reaches_small}
use Rattle.lp_scale.proofs.exponents.reaches.Goals as goal

pub returns-clause-small : goal.returns-clause-small
returns-clause-small c = subst (ReachUpTo 128) (sym c.loop-column.invariant) (reaches_small (take c.loop-column.column-index c.args.columns.now))

use Rattle.std.proofs.Common.{◌^◌, ◌<◌, ℤ, nat_abs, subst}
use Rattle.lp_table.proofs.Skips.{moved_at}
use Rattle.lp_table.proofs.updates.moved.Goals as goal

pub returns : goal.returns
returns c = moved_at c.added.result c.args.factor c.args.n c.args.t (subst (λ (z : ℤ). nat_abs z < 2 ^ 60) c.number-number.ensures.value c.number-number.ensures.small) c.added.ensures

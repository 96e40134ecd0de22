use Rattle.std.proofs.Common.{◌<◌, sym, subst}
use Rattle.policy_evaluate.proofs.Divisors.{parts_of}
use Rattle.policy_evaluate.proofs.capped.capped_multiple.Goals as goal

pub nonzero_div-first : goal.nonzero_div-first
nonzero_div-first c = subst (λ g. 0 < g) (sym c.gcd.ensures) (parts_of c.args.first c.args.second c.requires.some).some

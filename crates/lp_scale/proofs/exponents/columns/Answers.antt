use Rattle.std.proofs.Common.{subst, sym, ◌∙◌}
use Rattle.lp_scale.specs.Exponents.{AreUpTo}
use Rattle.lp_scale.proofs.Passes.{zeros_up_to}
use Rattle.lp_scale.proofs.exponents.columns.Goals as goal

pub passes-requires-clause-exponents : goal.passes-requires-clause-exponents
passes-requires-clause-exponents c = subst (AreUpTo 0) (sym (c.as_mut_slice.ensures.value ∙ c.in_ok-exponents.ensures)) (zeros_up_to c.args.count)

use Rattle.std.proofs.Common.{ℕ, ap, map, subst, sym, ◌+◌, ◌∙◌}
use Rattle.lp_scale.specs.Exponents.{AreUpTo, pass_of, column_lift}
use Rattle.lp_scale.proofs.Passes.{pass_up_to}
use Rattle.lp_scale.proofs.exponents.pass.Goals as goal

pub returns-clause-range : goal.returns-clause-range
unfolding pass_of
returns-clause-range c = λ (most : ℕ) h. subst (AreUpTo (most + 128)) (sym (c.write_exponents.ensures ∙ ap (map column_lift) c.write_spans.ensures.value)) (pass_up_to most c.args.decisions c.args.reaches.now c.args.rows.now c.args.exponents.now h)

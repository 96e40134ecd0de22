use Rattle.std.proofs.Common.{nat_abs, ap, ◌∙◌}
use Rattle.std.proofs.lemmas.Int.{to_z-of_z}
use mir.Syntax.{w64}
use Rattle.lp_scale.proofs.Digits.{digits_read, digits_some, digits_few}
use Rattle.lp_scale.proofs.slope_digits.digits.Goals as goal

pub returns-clause-value : goal.returns-clause-value
returns-clause-value c = digits_read c.args.slope c.unsigned_abs.result (c.unsigned_abs.ensures.value ∙ ap nat_abs (to_z-of_z w64 c.args.slope c.ranges.slope)) c.requires

pub returns-clause-some : goal.returns-clause-some
returns-clause-some c = digits_some c.args.slope c.unsigned_abs.result (c.unsigned_abs.ensures.value ∙ ap nat_abs (to_z-of_z w64 c.args.slope c.ranges.slope)) c.requires

pub returns-clause-few : goal.returns-clause-few
returns-clause-few c = digits_few c.args.slope c.unsigned_abs.result (c.unsigned_abs.ensures.value ∙ ap nat_abs (to_z-of_z w64 c.args.slope c.ranges.slope)) c.requires

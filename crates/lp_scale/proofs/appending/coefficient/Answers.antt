use Rattle.std.proofs.Common.{ℤ, ap₂, ◌∙◌}
use Rattle.std.proofs.lemmas.Int.{to_z-of_z}
use Rattle.std.specs.Option.{option_and_then}
use mir.Syntax.{w32, w128}
use Rattle.lp_table.specs.Numbers.{coefficient_of, shift_of}
use Rattle.lp_scale.proofs.Coefficients.{same_cell, wide}
use Rattle.lp_scale.proofs.appending.coefficient.Goals as goal

pub returns : goal.returns
returns c =
    c.narrow_coefficient.ensures ∙ ap₂ (λ (n k : ℤ). option_and_then coefficient_of (shift_of n k)) (to_z-of_z w128 c.args.number c.ranges.number) (to_z-of_z w32 c.args.exponent c.ranges.exponent)
    ∙ same_cell c.args.number c.args.exponent (wide c.args.number c.ranges.number) c.requires

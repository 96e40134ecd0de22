use Rattle.std.proofs.Common.{◌≡◌, ℤ, pos, negsuc, ◌-ℤ◌, ◌*ℤ◌, ◌≤ℤ◌, nat_abs, arith, ap₂, ◌∙◌}
use mir.Syntax.{w128}
use Rattle.std.specs.Int.{int_rem_euclid}
use Rattle.std.proofs.lemmas.Int.{ints, to_z-of_z}
use Rattle.base_num.specs.Sums.{floor_over}
use Rattle.cut_make.proofs.divided.left_over.Goals as goal

rest_is : (a d : ℤ) → pos 1 ≤ℤ d → int_rem_euclid a d ≡ a -ℤ d *ℤ floor_over a (nat_abs d)
rest_is (pos a) (pos d) h = omega (arith, ints)
rest_is (negsuc a) (pos d) h = omega (arith, ints)
rest_is a (negsuc d) h = absurd (omega (arith, ints))

pub returns : goal.returns
returns c =
    to_z-of_z w128 c.rem_euclid.result (record { sfits = c.rem_euclid.type_inv }) ∙ c.rem_euclid.ensures.value
    ∙ ap₂ int_rem_euclid (to_z-of_z w128 c.args.sum c.ranges.sum) (to_z-of_z w128 c.args.under c.ranges.under) ∙ rest_is c.args.sum c.args.under c.requires

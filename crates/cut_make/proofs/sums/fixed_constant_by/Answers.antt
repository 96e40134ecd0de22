use Rattle.std.proofs.Common.{◌*ℤ◌, map, length, ◌∙◌}
use mir.Syntax.{w128}
use Rattle.std.specs.Int.{int_wrap}
use Rattle.std.proofs.lemmas.Int.{to_z-of_z}
use Rattle.base_num.specs.Sums.{entry}
use Rattle.problem.specs.declared.parts.Decision.{Decision}
use Rattle.cut_make.specs.Parts.{costs_at_scale}
use Rattle.cut_make.specs.Tabled.{Tabled}
use Rattle.cut_make.proofs.Congruence.{same_read}
use Rattle.cut_make.proofs.Tables.{tabled_as, tabled_front}
use Rattle.cut_make.proofs.sums.fixed_constant_by.Goals as goal

pub returns : goal.returns
returns c =
    let s = c.args.here.now.subproblem.now in
    let start : Tabled (costs_at_scale c.args.scale s) c.write_costs.new.costs =
    tabled_as _ _ c.write_costs.new.costs
    (λ j i. int_wrap w128 (to_z-of_z w128 c.args.scale c.ranges.scale i *ℤ entry (map (λ (d : Decision). d.cost) (c.as_slice-decisions.ensures i)) j))
    c.write_costs.ensures.costs in
    same_read c.fixed_part.result (record { sfits = c.fixed_part.type_inv })
    ∙ c.fixed_part.ensures.value c.args.scale (tabled_front (costs_at_scale c.args.scale s) c.write_costs.new.costs (length c.as_slice-decisions.result.now) start) c.requires.small

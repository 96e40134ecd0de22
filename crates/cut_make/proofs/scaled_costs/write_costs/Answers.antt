use Rattle.std.proofs.Common.{List, ℤ, pos, ◌+ℤ◌, ◌*ℤ◌, map, ap, ◌∙◌}
use mir.Syntax.{w128}
use lib.IntN.{+ℤ_idl}
use Rattle.std.specs.Int.{int_wrap}
use Rattle.std.proofs.lemmas.Int.{to_z-of_z}
use Rattle.base_num.specs.Sums.{entry}
use Rattle.problem.specs.declared.parts.Decision.{Decision}
use Rattle.cut_make.proofs.Tables.{tabled_as}
use Rattle.cut_make.proofs.scaled_costs.write_costs.Goals as goal

pub returns-clause-costs : goal.returns-clause-costs
returns-clause-costs c =
    let costs : List ℤ = map (λ (d : Decision). d.cost) c.args.decisions.now in
    tabled_as _ _ c.add_costs.new.sums
    (λ j. ap (int_wrap w128) (ap (λ (z : ℤ). pos 0 +ℤ z *ℤ entry costs j) (to_z-of_z w128 c.args.scale c.ranges.scale) ∙ +ℤ_idl (c.args.scale *ℤ entry costs j)))
    (c.add_costs.ensures.value (λ j. pos 0) c.requires.zeros)

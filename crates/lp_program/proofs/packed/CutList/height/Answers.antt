use Rattle.std.proofs.Common.{◌∙◌, List, length, pos, get_or, ap, sym, rules, SFits, arith}
use mir.Syntax.{w128}
use Rattle.std.proofs.lemmas.Int.{to_z-of_z}
use Rattle.lp_program.specs.PackedCut.{PackedCut, no_packed_cut}
use Rattle.lp_program.proofs.SideBySide.{length-cuts_of, height_at}
use Rattle.lp_program.proofs.packed.CutList.height.Goals as goal

pub offset_bounds-heights-place : goal.offset_bounds-heights-place
offset_bounds-heights-place c = record { fits = omega (arith, length-cuts_of c.self.inside.states c.self.inside.heights.now c.self.inside.slopes.now, ap length c.self.view_is, c.requires, c.self.invariant.few) }

pub bounds-heights-place : goal.bounds-heights-place
bounds-heights-place c = omega (arith, length-cuts_of c.self.inside.states c.self.inside.heights.now c.self.inside.slopes.now, ap length c.self.view_is, c.requires)

pub returns-clause-value : goal.returns-clause-value
returns-clause-value c =
    let fits : SFits w128 (get_or c.self.inside.heights.now c.args.place (pos 0)) = search rules in
    to_z-of_z w128 (get_or c.self.inside.heights.now c.args.place (pos 0)) fits
    ∙ sym (height_at c.self.inside.states c.self.inside.heights.now c.self.inside.slopes.now c.args.place)
    ∙ ap (λ (cs : List PackedCut). (get_or cs c.args.place no_packed_cut).height) c.self.view_is

use Rattle.std.proofs.Common.{◌∙◌, ◌<◌, List, length, get_or, ap, sym, arith}
use Rattle.lp_program.specs.PackedCut.{PackedCut, no_packed_cut}
use Rattle.lp_program.proofs.SideBySide.{length-cuts_of, slopes_at, within}
use Rattle.lp_program.proofs.packed.CutList.slopes.Goals as goal

pub overflow_mul-place : goal.overflow_mul-place
overflow_mul-place c =
    let there : c.args.place < length c.self.inside.heights.now = omega (arith, length-cuts_of c.self.inside.states c.self.inside.heights.now c.self.inside.slopes.now, ap length c.self.view_is, c.requires) in
    record { fits = omega (arith, within c.self.inside.states c.self.inside.heights.now c.self.inside.slopes.now c.args.place c.self.invariant.count there, c.self.told.1.0) }

pub part-requires : goal.part-requires
part-requires c =
    let there : c.args.place < length c.self.inside.heights.now = omega (arith, length-cuts_of c.self.inside.states c.self.inside.heights.now c.self.inside.slopes.now, ap length c.self.view_is, c.requires) in
    within c.self.inside.states c.self.inside.heights.now c.self.inside.slopes.now c.args.place c.self.invariant.count there

pub returns-clause-value : goal.returns-clause-value
returns-clause-value c =
    let there : c.args.place < length c.self.inside.heights.now = omega (arith, length-cuts_of c.self.inside.states c.self.inside.heights.now c.self.inside.slopes.now, ap length c.self.view_is, c.requires) in
    c.part.ensures
    ∙ sym (slopes_at c.self.inside.states c.self.inside.heights.now c.self.inside.slopes.now c.args.place there)
    ∙ ap (λ (cs : List PackedCut). (get_or cs c.args.place no_packed_cut).slopes) c.self.view_is

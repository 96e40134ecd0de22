use Rattle.std.proofs.Common.{◌∙◌, ◌<◌, length, get_or, ap, sym, subst, arith, List}
use Rattle.lp_program.specs.PackedCut.{PackedCut, IsSmallCut}
use Rattle.lp_program.proofs.SideBySide.{length-cuts_of, wide, all_small}
use Rattle.lp_program.proofs.packed.CutList.states.Goals as goal

pub returns-clause-slopes : goal.returns-clause-slopes
returns-clause-slopes c k d l =
    let there : k < length c.self.inside.heights.now = omega (arith, length-cuts_of c.self.inside.states c.self.inside.heights.now c.self.inside.slopes.now, ap length c.self.view_is, l) in
    ap (λ (cs : List PackedCut). length (get_or cs k d).slopes) (sym c.self.view_is)
    ∙ wide c.self.inside.states c.self.inside.heights.now c.self.inside.slopes.now k d c.self.invariant.count there

pub returns-clause-small : goal.returns-clause-small
returns-clause-small c k d l =
    let there : k < length c.self.inside.heights.now = omega (arith, length-cuts_of c.self.inside.states c.self.inside.heights.now c.self.inside.slopes.now, ap length c.self.view_is, l) in
    subst (λ (cs : List PackedCut). IsSmallCut (get_or cs k d)) c.self.view_is
    (all_small c.self.inside.states c.self.inside.heights.now c.self.inside.slopes.now k d c.self.invariant.heights c.self.invariant.slopes there)

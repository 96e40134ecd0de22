use Rattle.std.proofs.Common.{List, IfSome, subst}
use Rattle.lp_program.specs.PackedCut.{PackedCut}
use Rattle.lp_program.specs.SlopeEnds.{AreSlopeEnds}
use Rattle.lp_program.proofs.packed.PackedCuts.ends.Goals as goal

pub returns : goal.returns
returns c =
    subst (λ (cs : List PackedCut). IfSome c.self.inside.ends (AreSlopeEnds cs)) c.self.view_is c.self.invariant.ends

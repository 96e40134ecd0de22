use Rattle.std.proofs.Common.{List, take, All}
use Rattle.lp_program.specs.PackedCut.{PackedCut}
use Rattle.lp_program.specs.PackedCut.{IsSmallCut}
use Rattle.lp_scale.proofs.packed.read_all.Given as goal

abbrev pub invariant-loop-k : goal.invariant-loop-k
invariant-loop-k l = All (λ (cs : List PackedCut). All IsSmallCut cs) (take l.k l.view.cuts)

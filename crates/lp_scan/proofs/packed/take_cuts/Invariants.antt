use Rattle.std.proofs.Common.{◌≡◌, ◌+◌, drop}
use Rattle.lp_program.specs.PackedCut.{PackedCut}
use Rattle.lp_program.specs.Covering.{value_of}
use Rattle.lp_scale.specs.Walks.{walk}
use Rattle.lp_scan.specs.Values.{greater_valued}
use Rattle.lp_scan.proofs.packed.take_cuts.Given as goal

abbrev pub invariant-loop-place : goal.invariant-loop-place
invariant-loop-place l =
    walk (λ i b (c : PackedCut). greater_valued b (i, value_of c l.leaving)) l.first l.fn.best l.cuts
    ≡ walk (λ i b (c : PackedCut). greater_valued b (i, value_of c l.leaving)) (l.first + l.place) l.best (drop l.place l.cuts)

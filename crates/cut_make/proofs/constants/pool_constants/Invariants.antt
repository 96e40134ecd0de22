use Rattle.std.proofs.Common.{take}
use Rattle.theory.specs.declared.cut.Cut.{Cut}
use Rattle.cut_make.specs.Parts.{over_pool}
use Rattle.cut_make.specs.Congruent.{Congruent}
use Rattle.cut_make.proofs.constants.pool_constants.Given as goal

abbrev pub invariant-loop-place : goal.invariant-loop-place
invariant-loop-place l = Congruent l.sum (over_pool l.pool (λ (cut : Cut). cut.alpha) (take l.place-index l.pairs))

use Rattle.std.proofs.Common.{ℕ, List, zip, take}
use Rattle.base_num.specs.Sums.{total}
use Rattle.theory.specs.declared.cut.Cut.{Cut}
use Rattle.theory.specs.Pools.{pool}
use Rattle.cut_make.specs.Parts.{over_pool}
use Rattle.cut_make.specs.Congruent.{Congruent}
use Rattle.cut_make.proofs.constants.successor_constants.Given as goal

abbrev pub invariant-loop-i : goal.invariant-loop-i
invariant-loop-i l = Congruent l.sum (total (λ (q : ℕ × List (ℕ × ℕ)). over_pool (pool l.pools.lists q.0) (λ (cut : Cut). cut.alpha) q.1) (take l.i (zip l.successors l.cuts)))

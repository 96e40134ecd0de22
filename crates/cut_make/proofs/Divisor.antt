-- The divisor of a node with given weights.
use Rattle.std.proofs.Common.{◌≡◌, ℕ, ◌*◌, ◌<◌, ℤ, List, length, sum, arith, ap, sym, subst, mul-pos}
use Rattle.problem.specs.declared.parts.Node as nodes
use Rattle.problem.specs.declared.parts.Subproblem.{Subproblem}
use Rattle.theory.specs.declared.cut.Cut.{Cut}
use Rattle.theory.specs.Problem.{S, weight_of_successors}
use Rattle.theory.specs.View.{successors_of, node_of}
use Rattle.theory.specs.CutOf.{divisor}
use Rattle.theory.proofs.Duality.{scale_some}
use Rattle.cut_make.specs.Sized.{Sized, unboxed}
use Rattle.cut_make.proofs.Weighted.{weight-reweighted, some_weight}

pub divisor-unboxed : (ws : List ℕ) (n : nodes.Node) (s : Subproblem) → length ws ≡ length n.weights → length n.values ≡ length n.weights → S * weight_of_successors n.stop (successors_of n.successors n.successor_weights) * sum ws ≡ divisor (unboxed ws n s)
unfolding node_of
divisor-unboxed ws n s e f = ap (λ (k : ℕ). S * weight_of_successors n.stop (successors_of n.successors n.successor_weights) * k) (sym (weight-reweighted ws n.weights n.values e f))

pub divisor_some : (pools : List (List Cut)) (n : nodes.Node) (s : Subproblem) (low : List ℤ) (ws : List ℕ) → Sized pools n s low ws → 0 < divisor (unboxed ws n s)
divisor_some pools n s low ws z =
    subst (λ (k : ℕ). 0 < k) (divisor-unboxed ws n s z.count z.values) (mul-pos (mul-pos scale_some z.scale) (some_weight ws (omega (arith, z.count, z.some)) z.positive))

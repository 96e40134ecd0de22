-- Premises of calls at a node.
use Rattle.std.specs.Prelude.{ℕ, ℤ, List, length}
use Rattle.problem.specs.Validated.{Validated}
use Rattle.theory.specs.declared.cut.Cut.{Cut}
use Rattle.theory.specs.Fit.{Fit}
use Rattle.theory.specs.Problem.{S, node_at}
use Rattle.theory.specs.Tree.{InBox}
use Rattle.theory.specs.View.{problem_of}

-- the pools fit the problem: one for each node, of cuts within its range
abbrev pub PoolsFit : Validated → List (List Cut) → Type 0
PoolsFit p pools = Fit (problem_of p) (length p.parts.nodes) pools

-- a state, at scale S, in the box of the node m
abbrev pub IsStateAt : Validated → ℕ → List ℤ → Type 0
IsStateAt p m x = InBox S (node_at (problem_of p) m).low (node_at (problem_of p) m).high x

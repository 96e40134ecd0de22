-- Rows that were worked out by hand, by computing.
use Rattle.std.proofs.Common.{◌≡◌, pos, [], ◌∷◌, refl}
use Rattle.theory.specs.Examples.{policy_of, reservoir_problem}
use Rattle.theory.specs.Problem.{S}
use Rattle.theory.specs.Tree.{branch, no_branch, no_tree}
use Rattle.policy_evaluate.specs.TooBig.{branches, denominator, node_size}
use Rattle.policy_evaluate.specs.Upper.{upper_of}

pub fifteen : upper_of (reservoir_problem 1) (policy_of (branch (pos 0 ∷ pos 83886080 ∷ pos 67108864 ∷ []) no_tree (branch (pos 0 ∷ pos 117440512 ∷ pos 33554432 ∷ []) no_tree no_branch))) ≡ pos 251658240
unfolding S upper_of
fifteen = refl

pub third_of_forty : upper_of (reservoir_problem 2) (policy_of (branch (pos 0 ∷ pos 83886080 ∷ pos 67108864 ∷ []) no_tree (branch (pos 0 ∷ pos 117440512 ∷ pos 33554432 ∷ []) no_tree no_branch))) ≡ pos 223696214
unfolding S upper_of
third_of_forty = refl

pub two_branches : branches (reservoir_problem 2) 1 0 ≡ 2
two_branches = refl

pub over_three : denominator (reservoir_problem 2) 1 0 ≡ 3
over_three = refl

pub hundred : node_size (reservoir_problem 2) 0 ≡ 100
hundred = refl

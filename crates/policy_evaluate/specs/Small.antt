-- Bounds that keep the costs of a walk through the tree inside 128 bits, and the facts that such a walk keeps.
use Rattle.std.specs.Prelude.{◌≡◌, ℕ, ◌+◌, ◌*◌, ◌/◌, ◌<◌, ◌≤◌, ◌^◌, pos, ◌+ℤ◌, ◌*ℤ◌, nat_abs, List, map, sum, FitsSigned}
use Rattle.std.specs.Int.{w128}
use Rattle.problem.specs.Validated.{Validated}
use Rattle.theory.specs.Problem.{S, Successor}
use Rattle.theory.specs.View.{problem_of}
use Rattle.policy_evaluate.specs.Multiples.{gcd, lcm, lcm_all}
use Rattle.policy_evaluate.specs.TooBig.{branches, denominator, most_size}
use Rattle.policy_evaluate.specs.declared.costs.Walked.{Walked}

-- the most that a tree of n stages costs, in absolute value and at scale 2^24
abbrev pub most_cost : Validated → ℕ → ℕ
most_cost p n = S * (n * most_size p)

-- the number over which the costs of these successors stand together, and how many branches they have
abbrev pub successor_denominator : Validated → ℕ → List Successor → ℕ
successor_denominator p n ls = lcm_all 1 (map (λ (l : Successor). denominator (problem_of p) n l.node) ls)

abbrev pub successor_branches : Validated → ℕ → List Successor → ℕ
successor_branches p n ls = sum (map (λ (l : Successor). branches (problem_of p) n l.node) ls)

-- no sum of costs over this number with this total weight leaves 128 bits, and the branches are few
pub record IsSmall (p : Validated) (n u weight k count : ℕ) : Type 0 where
  pub under : u ≤ 2 ^ 40
  pub weighted : u * weight ≤ 2 ^ 40
  pub branches : k + count ≤ 2 ^ 16
  pub sizes : n * most_size p ≤ 2 ^ 60

-- a sum of costs over this number with this total weight, after so many branches
pub record IsCost (p : Validated) (n u weight k : ℕ) (w : Walked) : Type 0 where
  pub under : w.under ≡ u
  pub small : nat_abs w.up ≤ u * (weight * most_cost p n)
  pub decided : w.decided ≡ k

-- each step of adding a cost stays inside its type
pub record AddsUp (sum : Walked) (weight : ℕ) (w : Walked) : Type 0 where
  pub some : 0 < gcd sum.under w.under
  pub own : FitsSigned w128 (sum.up *ℤ pos (w.under / gcd sum.under w.under))
  pub weighted : FitsSigned w128 (pos weight *ℤ w.up)
  pub more : FitsSigned w128 (pos weight *ℤ w.up *ℤ pos (sum.under / gcd sum.under w.under))
  pub whole : FitsSigned w128 (sum.up *ℤ pos (w.under / gcd sum.under w.under) +ℤ pos weight *ℤ w.up *ℤ pos (sum.under / gcd sum.under w.under))
  pub under : lcm sum.under w.under < 2 ^ 64

-- Policies that were worked out by hand: which are feasible, their costs, and how near a bound comes.
use Rattle.std.proofs.Common.{◌≡◌, ℕ, ℤ, pos, ◌*ℤ◌, ◌≤ℤ◌, [], ◌∷◌, refl, arith}
use Rattle.std.proofs.lemmas.Int.{ints}
use Rattle.std.proofs.lemmas.List.Elements.{All-nil, All-cons}
use Rattle.theory.specs.Cost.{cost, policy_cost}
use Rattle.theory.specs.Examples.{water, demand, reservoir, reservoir_problem, tree_in_halves, wrong_tree, best_tree, policy_of, fork, fork_problem, fork_tree}
use Rattle.theory.specs.Fraction.{◌≤ᶠ◌}
use Rattle.theory.specs.Problem.{S, Node, node_at}
use Rattle.theory.specs.Tree.{RowHolds, Decides, Policy, no_branch, branch, no_tree}
use Rattle.theory.proofs.Boxes.{InBox-nil, InBox-cons}
use Rattle.problem.specs.declared.parts.Row.{Row}

-- three decisions in their boxes and in both rows
three : (units : ℕ) (w o q g x : ℤ) → (pos units *ℤ pos 0) ≤ℤ o → o ≤ℤ (pos units *ℤ pos 10) → (pos units *ℤ pos 0) ≤ℤ q → q ≤ℤ (pos units *ℤ pos 8) → (pos units *ℤ pos 0) ≤ℤ g → g ≤ℤ (pos units *ℤ pos 20)
    → RowHolds units (w ∷ []) (x ∷ []) (o ∷ q ∷ g ∷ []) water → RowHolds units (w ∷ []) (x ∷ []) (o ∷ q ∷ g ∷ []) demand → Decides units (reservoir 2) (w ∷ []) (x ∷ []) (o ∷ q ∷ g ∷ [])
three units w o q g x ol oh ql qh gl gh first second =
    let R : Row → Type 0 = RowHolds units (w ∷ []) (x ∷ []) (o ∷ q ∷ g ∷ []) in
    record {
      box = InBox-cons units (pos 0) (pos 10) o (pos 0 ∷ pos 0 ∷ []) (pos 8 ∷ pos 20 ∷ []) (q ∷ g ∷ []) ol oh
          (InBox-cons units (pos 0) (pos 8) q (pos 0 ∷ []) (pos 20 ∷ []) (g ∷ []) ql qh (InBox-cons units (pos 0) (pos 20) g [] [] [] gl gh (InBox-nil units)));
      rows = All-cons R water (demand ∷ []) first (All-cons R demand [] second (All-nil R));
    }

-- in halves at inflow 1: 1 + 9 = 8 + 2 and 9 + 9 = 18
low_inflow : Decides 2 (reservoir 2) (pos 1 ∷ []) (pos 8 ∷ []) (pos 1 ∷ pos 9 ∷ pos 9 ∷ [])
low_inflow = three 2 (pos 1) (pos 1) (pos 9) (pos 9) (pos 8) (omega (arith, ints)) (omega (arith, ints)) (omega (arith, ints)) (omega (arith, ints)) (omega (arith, ints)) (omega (arith, ints)) (record { low = omega (arith, ints); high = omega (arith, ints) }) (record { low = omega (arith, ints); high = omega (arith, ints) })

-- in halves at inflow 3: 0 + 14 = 8 + 6 and 14 + 4 = 18
high_inflow : Decides 2 (reservoir 2) (pos 3 ∷ []) (pos 8 ∷ []) (pos 0 ∷ pos 14 ∷ pos 4 ∷ [])
high_inflow = three 2 (pos 3) (pos 0) (pos 14) (pos 4) (pos 8) (omega (arith, ints)) (omega (arith, ints)) (omega (arith, ints)) (omega (arith, ints)) (omega (arith, ints)) (omega (arith, ints)) (record { low = omega (arith, ints); high = omega (arith, ints) }) (record { low = omega (arith, ints); high = omega (arith, ints) })

pub policy_in_halves : Policy (reservoir_problem 2) 2 (policy_of tree_in_halves)
policy_in_halves = ((low_inflow, tt, (high_inflow, tt, tt)), tt)

-- (45/2 + 2*20/2)/3 = 85/6
pub cost_in_halves : cost (reservoir_problem 2) 2 0 (pos 8 ∷ []) tree_in_halves ≡ record { up = pos 170; under = 12 }
cost_in_halves = refl

pub policy_cost_in_halves : policy_cost (reservoir_problem 2) 2 (policy_of tree_in_halves) ≡ record { up = pos 170; under = 12 }
policy_cost_in_halves = refl

-- 2 + 9 - 8 - 2 is 1
pub wrong_policy : Policy (reservoir_problem 2) 2 (policy_of wrong_tree) → ⊥
wrong_policy h = let above : pos 1 ≤ℤ pos 0 = (h.0.0.rows 0 water (omega arith)).high in absurd (omega (arith, ints))

-- a branch is missing
pub short_policy : Policy (reservoir_problem 2) 2 (policy_of (branch (pos 1 ∷ pos 9 ∷ pos 9 ∷ []) no_tree no_branch)) → ⊥
short_policy h = h.0.2

-- (20 + 2*10)/3
pub best_cost : policy_cost (reservoir_problem 2) 1 (policy_of best_tree) ≡ record { up = pos 40; under = 3 }
best_cost = refl

-- the bound of weights 1 and 2 is the greatest number at scale 2^24 that is under this cost
pub bound_under_best : record { up = pos 223696213; under = S } ≤ᶠ policy_cost (reservoir_problem 2) 1 (policy_of best_tree)
unfolding S
bound_under_best = record { crossed = omega (arith, ints) }

pub nothing_between : record { up = pos 223696214; under = S } ≤ᶠ policy_cost (reservoir_problem 2) 1 (policy_of best_tree) → ⊥
unfolding S
nothing_between h = let crossed : pos 671088642 ≤ℤ pos 671088640 = h.crossed in absurd (omega (arith, ints))

-- one decision in its box, and no row
one : (stop : ℕ) (x o : ℤ) → pos 0 ≤ℤ o → o ≤ℤ pos 10 → Decides 1 (fork stop) [] (x ∷ []) (o ∷ [])
one stop x o ol oh = record { box = InBox-cons 1 (pos 0) (pos 10) o [] [] [] (omega (arith, ints)) (omega (arith, ints)) (InBox-nil 1); rows = All-nil (RowHolds 1 [] (x ∷ []) (o ∷ [])) }

leaf : (n : Node) (x o : ℤ) → n.decision_low ≡ pos 0 ∷ [] → n.decision_high ≡ pos 10 ∷ [] → n.rows ≡ [] → Decides 1 (fork 0) [] (x ∷ []) (o ∷ []) → Decides 1 n [] (x ∷ []) (o ∷ [])
leaf n x o l h r d = record { box = rw (l, h) d.box; rows = rw r d.rows }

pub fork_policy : Policy (fork_problem 4) 1 (policy_of fork_tree)
fork_policy = (
  (
    one 4 (pos 5) (pos 3) (omega (arith, ints)) (omega (arith, ints)),
    (
      (leaf (node_at (fork_problem 4) 0) (pos 3) (pos 2) refl refl refl (one 0 (pos 3) (pos 2) (omega (arith, ints)) (omega (arith, ints))), tt, tt),
      ((leaf (node_at (fork_problem 4) 1) (pos 3) (pos 7) refl refl refl (one 0 (pos 3) (pos 7) (omega (arith, ints)) (omega (arith, ints))), tt, tt), tt),
    ),
    tt,
  ),
  tt,
)

-- with the stop weight 4: (8 + 3*4)/8, and without it (8 + 3*4)/4
pub stop_cost : policy_cost (fork_problem 4) 1 (policy_of fork_tree) ≡ record { up = pos 20; under = 8 }
stop_cost = refl

pub fork_cost : policy_cost (fork_problem 0) 1 (policy_of fork_tree) ≡ record { up = pos 20; under = 4 }
fork_cost = refl

-- The stage that decisions are of.
use Rattle.std.specs.Prelude.{ℕ, ◌≡◌, ◌≢◌, ◌<◌, ℤ, pos, true, List, [], length, All}
use Rattle.base_num.specs.Sums.{Term, entry}
use Rattle.problem.specs.declared.parts.Decision.{Decision}
use Rattle.problem.specs.Limits.{are_values}
use Rattle.problem.specs.Validated.{subproblem_of}
use Rattle.theory.specs.Problem.{S, Node, node_at}
use Rattle.theory.specs.Tree.{InBox}
use Rattle.theory.specs.View.{problem_of}
use Rattle.cut_pool.specs.AtNodes.{IsStateAt}
use Rattle.plan_mend.specs.declared.stage.MendedStage.{MendedStage}
use Rattle.plan_mend.specs.Moves.{Frame, frame_of}

abbrev pub node_of_stage : MendedStage → Node
node_of_stage s = node_at (problem_of s.problem.now) s.node

abbrev pub frame_at : MendedStage → Frame
frame_at s = frame_of (node_of_stage s) s.values.now s.state.now

-- the node is one of the problem, the values are its own, and the state is in its box
pub record IsNodeStage (s : MendedStage) : Type 0 where
  pub known : s.node < length s.problem.now.parts.nodes
  pub values : are_values (subproblem_of s.problem.now s.node) s.values.now ≡ true
  pub state : IsStateAt s.problem.now s.node s.state.now

-- the decision that counts where there is none of a number
abbrev pub no_decision : Decision
no_decision = record { name = []; low = pos 0; high = pos 0; cost = pos 0 }

-- the decisions lie in S times their boxes
abbrev pub AreDecisionsInside : MendedStage → List ℤ → Type 0
AreDecisionsInside s u = InBox S (node_of_stage s).decision_low (node_of_stage s).decision_high u

-- no term is of the decision
abbrev pub IsWithout : ℕ → List Term → Type 0
IsWithout j ts = All (λ (t : Term). t.0 ≢ j) ts

-- all decisions but one are the same
abbrev pub AreSameBut : ℕ → List ℤ → List ℤ → Type 0
AreSameBut j u v = (k : ℕ) → k ≢ j → entry v k ≡ entry u k

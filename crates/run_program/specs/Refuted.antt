-- Where a run is stopped by a stage without decisions: a node of the problem, values that come up there and a state that it may be in.
use Rattle.std.specs.Prelude.{◌≡◌, ◌<◌, ℕ, true, List, length, Contains, Ok}
use Rattle.problem.specs.declared.parts.Moment.{Moment}
use Rattle.problem.specs.Validated.{Validated}
use Rattle.theory.specs.Problem.{node_at}
use Rattle.theory.specs.View.{problem_of}
use Rattle.cut_pool.specs.AtNodes.{IsStateAt}
use Rattle.plan_answer.specs.declared.classifying.Infeasibility.{Infeasibility}
use Rattle.plan_answer.specs.Faults.{Refutes}
use Rattle.plan_answer.specs.Farkas.{refutes_of}
use Rattle.plan_draw.specs.declared.steps.PathStep.{PathStep}
use Rattle.plan_draw.specs.Drawn.{IsInRange}
use Rattle.policy_simulate.specs.Runs.{moment_of}
use Rattle.run_program.specs.Outcome.{WithBase, based_at}
use Rattle.run_words.specs.declared.command.Command.{Command}
use Rattle.run_words.specs.Traits.{Decisions, at_realizations, at_stored, nowhere, traits}

-- the node and the values of an infeasibility
abbrev pub moment_in : Infeasibility → Moment
moment_in infeasible = record { node = infeasible.node; values = infeasible.values }

-- a node of the problem with the values of one of its realizations
abbrev pub IsRealized : Validated → Moment → Type 0
IsRealized p m = (s : PathStep) × IsInRange p.parts s × (m ≡ moment_of p.parts s)

-- a moment of one of the scenarios that the problem stores
abbrev pub IsStoredMoment : Validated → Moment → Type 0
IsStoredMoment p m = (run : List Moment) × Contains p.parts.scenarios run × Contains run m

abbrev pub Decided : Decisions → Validated → Moment → Type 0
Decided nowhere p m = ⊥
Decided at_realizations p m = IsRealized p m
Decided at_stored p m = IsStoredMoment p m

-- where a command makes decisions: at realizations of nodes, or at moments of stored scenarios; others make none
abbrev pub DecidesAt : Command → Validated → Moment → Type 0
DecidesAt command p m = Decided (traits command).decisions p m

-- An infeasibility of the problem that the bytes give: its node is one of the problem, at values where the command makes decisions and at a state in
-- the node's box, and there the multipliers of the node's rows show that no decisions exist, in any fraction of a unit.
pub record IsRefuted (command : Command) (bytes : List ℕ) (infeasible : Infeasibility) : Type 0 where
  pub b : WithBase
  pub is : based_at bytes ≡ Ok b
  pub known : infeasible.node < length b.problem.parts.nodes
  pub realized : DecidesAt command b.problem (moment_in infeasible)
  pub inside : IsStateAt b.problem infeasible.node infeasible.state
  pub multipliers : refutes_of (node_at (problem_of b.problem) infeasible.node) infeasible.values infeasible.state infeasible.rows ≡ true
  pub none : Refutes b.problem infeasible

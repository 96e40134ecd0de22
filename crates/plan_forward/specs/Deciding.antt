-- The decisions at a node by the answer to its stage problem, or the infeasibility where there are none.
use Rattle.std.specs.Prelude.{ℕ, ◌^◌, ◌/◌, ℤ, pos, ◌*ℤ◌, Bool, true, false, List, length, get_or, Result, Ok, Err}
use Rattle.std.specs.Int.{int_min, int_max}
use Rattle.base_num.specs.Sums.{entry, table, floor_over}
use Rattle.problem.specs.Validated.{Validated}
use Rattle.theory.specs.declared.cut.Cut.{Cut}
use Rattle.theory.specs.Problem.{S, Node, node_at}
use Rattle.theory.specs.Tree.{next_state}
use Rattle.theory.specs.View.{problem_of}
use Rattle.lp_program.specs.declared.fixed.Fx.{Fx}
use Rattle.lp_program.specs.declared.programs.Answer.{Answer}
use Rattle.plan_answer.specs.declared.classifying.Infeasibility.{Infeasibility}
use Rattle.plan_answer.specs.declared.classifying.Classified.{Classified}
use Rattle.plan_answer.specs.declared.classifying.Classified.TheVariants as classified
use Rattle.plan_answer.specs.Classifying.{classify_of}
use Rattle.plan_stage.specs.Stage.{whole_fixed}
use Rattle.lp_program.specs.Solving.{Solving}
use Rattle.plan_stage.specs.Chained.{stage_answer}
use Rattle.plan_forward.specs.declared.deciding.Decided.{Decided}

-- from the scale 2^32 of a solver to the scale 2^24, rounded down
abbrev pub rescaled_decision : Fx → ℤ
rescaled_decision x = floor_over x.0 (2 ^ 32 / 2 ^ 24)

-- the nearest number in S times the box
abbrev pub boxed_decision : ℤ → ℤ → ℤ → ℤ
boxed_decision low high z = int_max (int_min z (pos S *ℤ high)) (pos S *ℤ low)

-- the decision j with its box; where its value is missing it is the least
abbrev pub decision_from_point : List Fx → ℕ → ℤ → ℤ → ℤ
decision_from_point point j low high = boxed_decision low high (rescaled_decision (get_or point j (whole_fixed low)))

-- the decisions of a node at a point, at scale S
abbrev pub decisions_from_point : Node → List Fx → List ℤ
decisions_from_point n point = table (length n.decision_low) (λ j. decision_from_point point j (entry n.decision_low j) (entry n.decision_high j))

-- no point was found, and nothing was shown
abbrev pub is_unanswered : Classified → Bool
is_unanswered classified.Found = false
is_unanswered classified.Unanswered = true
is_unanswered (classified.Infeasibility ys) = false

-- the decisions by an answer and its classification; the state that leaves the node is the decisions at its outs
abbrev pub decided_of : Node → Answer → Classified → Decided
decided_of n answer known = record {
  kind = answer.kind;
  unanswered = is_unanswered known;
  decisions = decisions_from_point n answer.point;
  next = next_state n (decisions_from_point n answer.point);
}

-- the infeasibility where there is one, and else the decisions
abbrev pub unless_infeasible : (List ℤ → Infeasibility) → Decided → Classified → Result Decided Infeasibility
unless_infeasible infeasible decided classified.Found = Ok decided
unless_infeasible infeasible decided classified.Unanswered = Ok decided
unless_infeasible infeasible decided (classified.Infeasibility ys) = Err (infeasible ys)

-- the decisions at the node m, the values and the state, or the infeasibility in the run of this number
abbrev pub decide_by : Validated → ℕ → ℕ → List ℤ → List ℤ → Answer → Classified → Result Decided Infeasibility
decide_by p run m values state answer known =
    unless_infeasible (λ ys. record { run = run; node = m; values = values; state = state; rows = ys }) (decided_of (node_at (problem_of p) m) answer known) known

-- Decide: by the answer to the node's stage problem, in a chain of its own
unfoldable pub decide_of : {Start Chain : Type 0} → Solving Start Chain → Validated → List (List Cut) → ℕ → ℕ → List ℤ → List ℤ → Result Decided Infeasibility
decide_of v p pools run m values state =
    let answer : Answer = stage_answer v p pools m values state in
    decide_by p run m values state answer (classify_of (node_at (problem_of p) m) values state answer)

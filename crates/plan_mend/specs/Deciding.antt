-- The mended decisions at a node: where the answer to its stage problem is a point, the decisions there are mended.
use Rattle.std.specs.Prelude.{ℕ, ℤ, Bool, List, Result, Ok}
use Rattle.base_num.specs.Steps.{◌>>=◌}
use Rattle.problem.specs.Validated.{Validated}
use Rattle.theory.specs.declared.cut.Cut.{Cut}
use Rattle.theory.specs.Problem.{Node, node_at}
use Rattle.theory.specs.Tree.{next_state}
use Rattle.theory.specs.View.{problem_of}
use Rattle.lp_program.specs.declared.programs.Kind.{Kind}
use Rattle.lp_program.specs.declared.programs.Kind.TheVariants as kinds
use Rattle.plan_answer.specs.declared.classifying.Infeasibility.{Infeasibility}
use Rattle.lp_program.specs.Solving.{Solving}
use Rattle.plan_forward.specs.declared.deciding.Decided.{Decided}
use Rattle.plan_forward.specs.Deciding.{decide_of}
use Rattle.plan_mend.specs.Mending.{mended_of}

-- these decisions of a node, by an answer of this kind, and the state that they leave
abbrev pub decided_as : Node → Kind → Bool → List ℤ → Decided
decided_as n kind unanswered u = record { kind = kind; unanswered = unanswered; decisions = u; next = next_state n u }

-- the first where a point was found, and else the second
abbrev pub if_found : Kind → Decided → Decided → Decided
if_found kinds.Found mended d = mended
if_found kinds.Ray mended d = d
if_found kinds.Stuck mended d = d

-- the decisions at values and a state, mended where a point was found
abbrev pub mend : Node → List ℤ → List ℤ → Decided → Decided
mend n values state d = if_found d.kind (decided_as n d.kind d.unanswered (mended_of n values state d.decisions)) d

-- the decisions by the answer to the node's stage problem, mended; an infeasibility stays as it is
unfoldable pub decide_mended_of : {Start Chain : Type 0} → Solving Start Chain → Validated → List (List Cut) → ℕ → ℕ → List ℤ → List ℤ → Result Decided Infeasibility
decide_mended_of v p pools run m values state =
    decide_of v p pools run m values state >>= λ d. Ok (mend (node_at (problem_of p) m) values state d)

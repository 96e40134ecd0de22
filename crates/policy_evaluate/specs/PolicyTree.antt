-- The tree of a policy: the decisions at each branch, in whole numbers at scale 2^24.
-- Source: the scenario tree of a policy over a policy graph, Dowson 2020.
use Rattle.std.specs.Prelude.{ℕ, zero, suc, ℤ, pos, List, [], ◌∷◌, ◌++◌, reverse, Option, Some, None, Result, Ok, Err, if◌then◌else◌}
use Rattle.std.specs.Ordering.{int_eq}
use Rattle.base_num.specs.Steps.{◌>>=◌}
use Rattle.problem.specs.Validated.{Validated}
use Rattle.theory.specs.declared.cut.Cut.{Cut}
use Rattle.theory.specs.Problem.{S, Realization, Successor, Problem, node_at}
use Rattle.theory.specs.Tree.{Tree, Forest, no_branch, branch, no_tree, tree, times_all}
use Rattle.theory.specs.View.{problem_of}
use Rattle.plan_answer.specs.declared.classifying.Infeasibility.{Infeasibility}
use Rattle.lp_program.specs.Solving.{Solving}
use Rattle.plan_draw.specs.declared.steps.PathStep.{PathStep}
use Rattle.plan_forward.specs.declared.deciding.Decided.{Decided}
use Rattle.plan_forward.specs.Costing.{residuals_of}
use Rattle.plan_mend.specs.Deciding.{decide_mended_of}
use Rattle.policy_evaluate.specs.declared.walking.Missed.{Missed}
use Rattle.policy_evaluate.specs.declared.walking.Verdict.{Verdict}
use Rattle.policy_evaluate.specs.declared.walking.Verdict.TheVariants as verdicts
use Rattle.policy_evaluate.specs.Upper.{upper_of}

-- why a walk through the tree stops: no decisions exist at a branch, or they miss a row there
pub data Stop : Type 0 where
  infeasible : Infeasibility → Stop
  missed : Missed → Stop

-- the first residual other than 0, where the rows begin with the number i
abbrev pub first_missed : ℕ → List ℤ → Option (ℕ × ℤ)
first_missed i [] = None
first_missed i (r ∷ rs) = if int_eq r (pos 0) then first_missed (suc i) rs else Some (i, r)

abbrev pub or_infeasible_stop : Result Decided Infeasibility → Result Decided Stop
or_infeasible_stop (Ok d) = Ok d
or_infeasible_stop (Err x) = Err (infeasible x)

abbrev pub unless_missed : PathStep → Option (ℕ × ℤ) → Decided → Result Decided Stop
unless_missed s None d = Ok d
unless_missed s (Some q) d = Err (missed (record { branches = s ∷ []; row = q.0; residual = q.1 }))

-- the decisions at a branch: after so many others, at these values and this state
abbrev pub Deciding : Type 0
Deciding = ℕ → PathStep → List ℤ → List ℤ → Result Decided Stop

-- by the answer to its stage problem, mended where that is a point; each row is looked at, in order
unfoldable pub decide_branch : {Start Chain : Type 0} → Solving Start Chain → Validated → List (List Cut) → Deciding
decide_branch v p pools run s values x =
    or_infeasible_stop (decide_mended_of v p pools run s.node values x) >>= λ d. unless_missed s (first_missed 0 (residuals_of (node_at (problem_of p) s.node) d.decisions x values)) d

-- a stop in the trees behind the branch s
abbrev pub stop_behind : {A : Type 0} → PathStep → Result A Stop → Result A Stop
stop_behind s (Ok x) = Ok x
stop_behind s (Err (infeasible d)) = Err (infeasible d)
stop_behind s (Err (missed m)) = Err (missed (record { branches = m.branches ++ s ∷ []; row = m.row; residual = m.residual }))

-- a part of the tree, and how many branches are decided by then; or why there is none
abbrev pub GrownPart : Type 0 → Type 0
GrownPart A = Result (A × ℕ) Stop

-- one tree per successor, in order; `grow` gives the tree of a node after so many branches
abbrev pub grown_forest : (ℕ → ℕ → GrownPart Tree) → ℕ → List Successor → GrownPart Forest
grown_forest grow decided [] = Ok (no_tree, decided)
grown_forest grow decided (l ∷ ls) = grow decided l.node >>= λ t. grown_forest grow t.1 ls >>= λ f. Ok (tree t.0 f.0, f.1)

-- a branch: its decisions, and then the trees of its successors, from the state that leaves it
abbrev pub branch_of : Deciding → (List ℤ → ℕ → ℕ → GrownPart Tree) → List Successor → ℕ → PathStep → List ℤ → List ℤ → GrownPart (List ℤ × Forest)
branch_of decide grow ls decided s values x =
    decide decided s values x >>= λ d. stop_behind s (grown_forest (grow d.next) (suc decided) ls) >>= λ f. Ok ((d.decisions, f.0), f.1)

-- one branch per realization of the node m, in order, from the realization i on
abbrev pub grown_tree : Deciding → (List ℤ → ℕ → ℕ → GrownPart Tree) → List Successor → ℕ → ℕ → ℕ → List Realization → List ℤ → GrownPart Tree
grown_tree decide grow ls m decided i [] x = Ok (no_branch, decided)
grown_tree decide grow ls m decided i (r ∷ rs) x =
    branch_of decide grow ls decided (record { node = m; realization = i }) r.values x >>= λ b. grown_tree decide grow ls m b.1 (suc i) rs x >>= λ t. Ok (branch b.0.0 b.0.1 t.0, t.1)

-- the tree of the node m from a state, of at most n stages
abbrev pub grow : Deciding → Problem → ℕ → List ℤ → ℕ → ℕ → GrownPart Tree
grow decide p zero x decided m = Ok (no_branch, decided)
grow decide p (suc n) x decided m = grown_tree decide (grow decide p n) (node_at p m).successors m decided 0 (node_at p m).realizations x

abbrev pub whole_tree : Deciding → Problem → ℕ → GrownPart Forest
whole_tree decide p n = grown_forest (grow decide p n (times_all S p.initial)) 0 p.root

-- PolicyTree: one tree per successor of the root, from the initial state; or the first branch that stops the walk, in order
unfoldable pub policy_tree : {Start Chain : Type 0} → Solving Start Chain → Validated → List (List Cut) → Result Forest Stop
policy_tree v p pools = whole_tree (decide_branch v p pools) (problem_of p) p.longest >>= λ f. Ok f.0

-- the cost of the tree from above; or the branches from the root to the one that misses a row
abbrev pub classified : Problem → Result Forest Stop → Result Verdict Infeasibility
classified p (Ok f) = Ok (verdicts.Cost (upper_of p f))
classified p (Err (infeasible d)) = Err d
classified p (Err (missed m)) = Ok (verdicts.Missed (reverse m.branches) m.row m.residual)

-- the verdict on the whole policy
unfoldable pub verdict_of : {Start Chain : Type 0} → Solving Start Chain → Validated → List (List Cut) → Result Verdict Infeasibility
verdict_of v p pools = classified (problem_of p) (policy_tree v p pools)

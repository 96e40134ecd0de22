-- Properties of mended decisions: they lie in their boxes, and their outs leave the node.
use Rattle.std.proofs.Common.{◌≡◌, ◌∙◌, ℕ, ◌<◌, ℤ, true, List, length, map, Some, Result, Ok, Err, Contains, refl, ap, sym, subst}
use Rattle.base_num.specs.Steps.{◌>>=◌}
use Rattle.base_num.specs.Sums.{entry}
use Rattle.problem.specs.declared.parts.Node as nodes
use Rattle.problem.specs.declared.parts.Subproblem.{Subproblem}
use Rattle.problem.specs.Parts.{successors_at}
use Rattle.problem.specs.Validated.{Validated, is_validated, subproblem_of}
use Rattle.theory.specs.declared.cut.Cut.{Cut}
use Rattle.theory.specs.Problem.{S, Node, node_at}
use Rattle.theory.specs.Tree.{InBox, next_state}
use Rattle.theory.specs.View.{node_of, problem_of}
use Rattle.lp_program.specs.declared.programs.Answer.{Answer}
use Rattle.lp_program.specs.declared.programs.Kind.{Kind}
use Rattle.lp_program.specs.declared.programs.Kind.TheVariants as kinds
use Rattle.plan_answer.specs.declared.classifying.Infeasibility.{Infeasibility}
use Rattle.plan_answer.specs.declared.classifying.Classified.{Classified}
use Rattle.plan_answer.specs.declared.classifying.Classified.TheVariants as classified
use Rattle.plan_answer.specs.Classifying.{classify_of}
use Rattle.lp_program.specs.Solving.{Solving}
use Rattle.plan_stage.specs.Chained.{stage_answer}
use Rattle.plan_forward.specs.declared.deciding.Decided.{Decided}
use Rattle.plan_forward.specs.Deciding.{decide_of, decide_by, decided_of}
use Rattle.cut_pool.specs.AtNodes.{IsStateAt}
use Rattle.plan_forward.proofs.Boxes.{nested-validated, next_inside}
use Rattle.plan_forward.proofs.ByAnswers.{inside_by, viewed}
use Rattle.plan_mend.specs.Deciding.{decide_mended_of, decided_as, if_found, mend}
use Rattle.plan_mend.specs.Mending.{mended_of}
use Rattle.plan_mend.proofs.Inside.{mended_inside}

-- the outs of a node are those of its subproblem
next-node_of : (n : nodes.Node) (s : Subproblem) (low high u : List ℤ) → map (λ o. entry u o) s.outs ≡ next_state (node_of n s low high) u
unfolding node_of
next-node_of n s low high u = refl

pub next_at : (p : Validated) (m : ℕ) (s : Subproblem) (u : List ℤ) → m < length p.parts.nodes → subproblem_of p m ≡ Some s → map (λ o. entry u o) s.outs ≡ next_state (node_at (problem_of p) m) u
next_at p m s u h is =
    let view = viewed p m s h is in
    next-node_of view.node s view.low view.high u ∙ ap (λ (n : Node). next_state n u) (sym view.is)

decided_same : (x y : Decided) (r : Result Decided Infeasibility) → r ≡ Ok x → r ≡ Ok y → x ≡ y
decided_same x y r e f = cc

no_decided : (x : Decided) (d : Infeasibility) (r : Result Decided Infeasibility) → r ≡ Err d → r ≡ Ok x → ⊥
no_decided x d r e f = cc

-- the state that leaves a node is the next state of the decisions
abbrev Leaves : Node → Decided → Type 0
Leaves n d = d.next ≡ next_state n d.decisions

leaves_by : (p : Validated) (run m : ℕ) (values x : List ℤ) (answer : Answer) (known : Classified) (d : Decided) → decide_by p run m values x answer known ≡ Ok d → Leaves (node_at (problem_of p) m) d
leaves_by p run m values x answer classified.Found d e = subst (Leaves (node_at (problem_of p) m)) (decided_same (decided_of (node_at (problem_of p) m) answer classified.Found) d (Ok (decided_of (node_at (problem_of p) m) answer classified.Found)) refl e) refl
leaves_by p run m values x answer classified.Unanswered d e = subst (Leaves (node_at (problem_of p) m)) (decided_same (decided_of (node_at (problem_of p) m) answer classified.Unanswered) d (Ok (decided_of (node_at (problem_of p) m) answer classified.Unanswered)) refl e) refl
leaves_by p run m values x answer (classified.Infeasibility ys) d e = absurd (no_decided d (record { run = run; node = m; values = values; state = x; rows = ys }) (Err (record { run = run; node = m; values = values; state = x; rows = ys })) refl e)

-- decisions in their boxes
abbrev Inside : Node → Decided → Type 0
Inside n d = InBox S n.decision_low n.decision_high d.decisions

-- a property of mended decisions, and of those before mending, holds of the result of mending
either : (P : Decided → Type 0) (kind : Kind) (mended d : Decided) → P mended → P d → P (if_found kind mended d)
either P kinds.Found mended d f g = f
either P kinds.Ray mended d f g = g
either P kinds.Stuck mended d f g = g

module _ (n : Node) (values x : List ℤ) (d : Decided) where
  inside_mend : Inside n d → Inside n (mend n values x d)
  inside_mend h = either (Inside n) d.kind (decided_as n d.kind d.unanswered (mended_of n values x d.decisions)) d (mended_inside n values x d.decisions h) h

  leaves_mend : Leaves n d → Leaves n (mend n values x d)
  leaves_mend h = either (Leaves n) d.kind (decided_as n d.kind d.unanswered (mended_of n values x d.decisions)) d refl h

-- the decisions before mending
record IsMended (n : Node) (values x : List ℤ) (first : Result Decided Infeasibility) (d : Decided) : Type 0 where
  pub before : Decided
  pub here : first ≡ Ok before
  pub is : mend n values x before ≡ d

mended_first : (n : Node) (values x : List ℤ) (first : Result Decided Infeasibility) (d : Decided) → (first >>= λ d. Ok (mend n values x d)) ≡ Ok d → IsMended n values x first d
mended_first n values x (Ok y) d e = record { before = y; here = refl; is = decided_same (mend n values x y) d (Ok (mend n values x y)) refl e }
mended_first n values x (Err infeasible) d e = absurd (no_decided d infeasible (Err infeasible) refl e)

module _ {Start Chain : Type 0} (v : Solving Start Chain) (p : Validated) (pools : List (List Cut)) (run m : ℕ) (values x : List ℤ) where
  by_answer : (d : Decided) → decide_of v p pools run m values x ≡ Ok d → decide_by p run m values x (stage_answer v p pools m values x) (classify_of (node_at (problem_of p) m) values x (stage_answer v p pools m values x)) ≡ Ok d
  unfolding decide_of
  by_answer d e = e

  first_of : (d : Decided) → decide_mended_of v p pools run m values x ≡ Ok d → IsMended (node_at (problem_of p) m) values x (decide_of v p pools run m values x) d
  unfolding decide_mended_of
  first_of d e = mended_first (node_at (problem_of p) m) values x (decide_of v p pools run m values x) d e

  -- where decisions are found and mended, these are the mended ones
  pub mended_from : (d found : Decided) → decide_of v p pools run m values x ≡ Ok d → found ≡ mend (node_at (problem_of p) m) values x d → decide_mended_of v p pools run m values x ≡ Ok found
  unfolding decide_mended_of
  mended_from d found e f = ap (λ (r : Result Decided Infeasibility). r >>= λ d. Ok (mend (node_at (problem_of p) m) values x d)) e ∙ ap Ok (sym f)

  -- mended decisions lie in their boxes
  pub inside_mended : is_validated p ≡ true → m < length p.parts.nodes → (d : Decided) → decide_mended_of v p pools run m values x ≡ Ok d → InBox S (node_at (problem_of p) m).decision_low (node_at (problem_of p) m).decision_high d.decisions
  inside_mended validated known d e =
      let first = first_of d e in
      let answer : Answer = stage_answer v p pools m values x in
      subst (Inside (node_at (problem_of p) m)) first.is
      (inside_mend (node_at (problem_of p) m) values x first.before
      (inside_by p validated run m known values x answer (classify_of (node_at (problem_of p) m) values x answer) first.before (by_answer first.before first.here)))

  -- the state that leaves the node
  pub next_mended : (d : Decided) → decide_mended_of v p pools run m values x ≡ Ok d → d.next ≡ next_state (node_at (problem_of p) m) d.decisions
  next_mended d e =
      let first = first_of d e in
      let answer : Answer = stage_answer v p pools m values x in
      subst (Leaves (node_at (problem_of p) m)) first.is
      (leaves_mend (node_at (problem_of p) m) values x first.before
      (leaves_by p run m values x answer (classify_of (node_at (problem_of p) m) values x answer) first.before (by_answer first.before first.here)))

  -- it lies in the box of each successor
  pub successors_mended : is_validated p ≡ true → m < length p.parts.nodes → (d : Decided) → decide_mended_of v p pools run m values x ≡ Ok d → (k : ℕ) → Contains (successors_at p.parts m) k → IsStateAt p k d.next
  successors_mended validated known d e k c =
      subst (IsStateAt p k) (sym (next_mended d e))
      (next_inside (node_at (problem_of p) m) (node_at (problem_of p) k) d.decisions (nested-validated p m k validated known c) (inside_mended validated known d e))

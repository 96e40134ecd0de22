-- The decisions by an answer, and their properties.
use Rattle.std.proofs.Common.{◌≡◌, ◌∙◌, Bool, true, ℕ, ◌<◌, ℤ, List, [], length, map, get_or, slice_get, Option, Some, Result, Ok, Err, IfOk, Contains, option_and_then, refl, ap, sym, subst}
use Rattle.base_num.proofs.Tests.{some_of}
use Rattle.base_num.specs.Sums.{entry, table}
use Rattle.problem.specs.declared.parts.Node as nodes
use Rattle.problem.specs.declared.parts.Subproblem.{Subproblem}
use Rattle.problem.specs.Parts.{successors_at}
use Rattle.problem.specs.Validated.{Validated, is_validated, subproblem_of}
use Rattle.theory.specs.Problem.{S, Node, node_at}
use Rattle.theory.specs.Tree.{InBox}
use Rattle.theory.specs.View.{node_of, problem_of}
use Rattle.theory.proofs.Views.{node_at-problem_of}
use Rattle.lp_program.specs.declared.programs.Answer.{Answer}
use Rattle.plan_answer.specs.declared.classifying.Infeasibility.{Infeasibility}
use Rattle.plan_answer.specs.declared.classifying.Classified.{Classified}
use Rattle.plan_answer.specs.declared.classifying.Classified.TheVariants as classified
use Rattle.plan_answer.specs.Classifying.{classify_of}
use Rattle.plan_answer.proofs.ClassifiedInfeasible.{classified_infeasible}
use Rattle.plan_forward.specs.declared.deciding.Decided.{Decided}
use Rattle.plan_answer.specs.declared.plan_fault.PlanFault.{PlanFault}
use Rattle.plan_answer.specs.declared.plan_fault.PlanFault.TheVariants.{Infeasible, Range, DiskFault, Memory}
use Rattle.plan_answer.specs.Faults.{FailsAsRefuted, GivesOrRefutes, OnNoStage, Refutes}
use Rattle.plan_forward.specs.Deciding.{decided_of, decide_by, is_unanswered}
use Rattle.cut_pool.specs.AtNodes.{IsStateAt}
use Rattle.plan_forward.proofs.Boxes.{boxes-validated, decisions_inside, nested-validated, next_inside}
use Rattle.plan_forward.proofs.Decisions.{lows, number_of}

-- the decisions at a subproblem
abbrev pub decided_at : Subproblem → Answer → Bool → Decided
decided_at s answer unanswered =
    let u : List ℤ = table (length (lows s.decisions)) (number_of answer.point s.decisions) in
    record { kind = answer.kind; unanswered = unanswered; decisions = u; next = map (λ o. entry u o) s.outs }

decided-node_of : (n : nodes.Node) (s : Subproblem) (low high : List ℤ) (answer : Answer) (known : Classified) → decided_at s answer (is_unanswered known) ≡ decided_of (node_of n s low high) answer known
unfolding node_of
decided-node_of n s low high answer known = refl

-- a node is seen with its subproblem
pub record Viewed (p : Validated) (m : ℕ) (s : Subproblem) : Type 0 where
  pub node : nodes.Node
  pub low : List ℤ
  pub high : List ℤ
  pub is : node_at (problem_of p) m ≡ node_of node s low high

pub viewed : (p : Validated) (m : ℕ) (s : Subproblem) → m < length p.parts.nodes → subproblem_of p m ≡ Some s → Viewed p m s
viewed p m s h is =
    let n = some_of p.parts.nodes m h in
    let own : slice_get p.parts.subs n.0.sub ≡ Some s = subst (λ (o : Option nodes.Node). option_and_then (λ (k : nodes.Node). slice_get p.parts.subs k.sub) o ≡ Some s) n.1 is in
    record { node = n.0; low = get_or p.lo m []; high = get_or p.hi m []; is = node_at-problem_of p m n.0 s n.1 own }

-- of the subproblem of a node it is the node's
pub decided_is : (p : Validated) (m : ℕ) (s : Subproblem) (answer : Answer) (known : Classified) (u : Bool) (d : Decided) → m < length p.parts.nodes → subproblem_of p m ≡ Some s → u ≡ is_unanswered known → d ≡ decided_at s answer u → d ≡ decided_of (node_at (problem_of p) m) answer known
decided_is p m s answer known u d h is eu ed =
    let view = viewed p m s h is in
    ed ∙ ap (decided_at s answer) eu ∙ decided-node_of view.node s view.low view.high answer known ∙ ap (λ (k : Node). decided_of k answer known) (sym view.is)

abbrev ok : Decided → Result Decided Infeasibility
ok d = Ok d

abbrev err : Infeasibility → Result Decided Infeasibility
err d = Err d

ok_same : (x y : Decided) → ok x ≡ ok y → x ≡ y
ok_same x y e = cc

err_same : (x y : Infeasibility) → err x ≡ err y → x ≡ y
err_same x y e = cc

no_ok : (x : Decided) (d : Infeasibility) → err d ≡ ok x → ⊥
no_ok x d h = cc

no_err : (x : Decided) (d : Infeasibility) → ok x ≡ err d → ⊥
no_err x d h = cc

-- a property of the defined answer holds of the given one, and so it is with an infeasibility
pub if_given : {A : Type 0} (r : Result A PlanFault) (defined : Result A Infeasibility) (P : A → Type 0) → ((x : A) → defined ≡ Ok x → P x) → GivesOrRefutes r defined → IfOk r P
if_given (Ok x) defined P f g = f x g
if_given (Err e) defined P f g = tt

pub on_no_stage : {A : Type 0} (r : Result A PlanFault) (defined : Result A Infeasibility) (P : Infeasibility → Type 0) → ((d : Infeasibility) → defined ≡ Err d → P d) → GivesOrRefutes r defined → OnNoStage r P
on_no_stage (Ok x) defined P f g = tt
on_no_stage (Err (Infeasible d)) defined P f g = f d g
on_no_stage (Err (Range k m r)) defined P f g = tt
on_no_stage (Err DiskFault) defined P f g = tt
on_no_stage (Err Memory) defined P f g = tt

-- a refusal of one step is that of the whole
pub fails_on : {A B : Type 0} (fault : PlanFault) (step : Result A Infeasibility) (whole : Result B Infeasibility) → ((d : Infeasibility) → step ≡ Err d → whole ≡ Err d) → FailsAsRefuted fault step → FailsAsRefuted fault whole
fails_on (Infeasible d) step whole f h = f d h
fails_on (Range k m r) step whole f h = absurd h
fails_on DiskFault step whole f h = absurd h
fails_on Memory step whole f h = tt

module _ (p : Validated) (e : is_validated p ≡ true) (run m : ℕ) (h : m < length p.parts.nodes) (values state : List ℤ) (answer : Answer) where
  inside_of : (known : Classified) → InBox S (node_at (problem_of p) m).decision_low (node_at (problem_of p) m).decision_high (decided_of (node_at (problem_of p) m) answer known).decisions
  inside_of known = decisions_inside (node_at (problem_of p) m) answer.point (boxes-validated p m e h)

  -- the decisions lie in the boxes
  pub inside_by : (known : Classified) (d : Decided) → decide_by p run m values state answer known ≡ Ok d → InBox S (node_at (problem_of p) m).decision_low (node_at (problem_of p) m).decision_high d.decisions
  inside_by classified.Found d is = subst (λ (x : Decided). InBox S (node_at (problem_of p) m).decision_low (node_at (problem_of p) m).decision_high x.decisions) (ok_same _ d is) (inside_of classified.Found)
  inside_by classified.Unanswered d is = subst (λ (x : Decided). InBox S (node_at (problem_of p) m).decision_low (node_at (problem_of p) m).decision_high x.decisions) (ok_same _ d is) (inside_of classified.Unanswered)
  inside_by (classified.Infeasibility ys) d is = absurd (no_ok d _ is)

  next_of : (k : ℕ) → Contains (successors_at p.parts m) k → (known : Classified) → IsStateAt p k (decided_of (node_at (problem_of p) m) answer known).next
  next_of k c known = next_inside (node_at (problem_of p) m) (node_at (problem_of p) k) (decided_of (node_at (problem_of p) m) answer known).decisions (nested-validated p m k e h c) (inside_of known)

  -- and what leaves the node in those of its successors
  pub next_by : (known : Classified) (d : Decided) → decide_by p run m values state answer known ≡ Ok d → (k : ℕ) → Contains (successors_at p.parts m) k → IsStateAt p k d.next
  next_by classified.Found d is k c = subst (λ (x : Decided). IsStateAt p k x.next) (ok_same _ d is) (next_of k c classified.Found)
  next_by classified.Unanswered d is k c = subst (λ (x : Decided). IsStateAt p k x.next) (ok_same _ d is) (next_of k c classified.Unanswered)
  next_by (classified.Infeasibility ys) d is k c = absurd (no_ok d _ is)

  -- a refuted node has no decisions
  refutes_by : (known : Classified) (d : Infeasibility) → classify_of (node_at (problem_of p) m) values state answer ≡ known → decide_by p run m values state answer known ≡ Err d → Refutes p d
  refutes_by classified.Found d j is = absurd (no_err _ d is)
  refutes_by classified.Unanswered d j is = absurd (no_err _ d is)
  refutes_by (classified.Infeasibility ys) d j is = subst (λ (x : Infeasibility). Refutes p x) (err_same _ d is) (classified_infeasible (node_at (problem_of p) m) values state answer ys j)

  pub refutes_classified : (d : Infeasibility) → decide_by p run m values state answer (classify_of (node_at (problem_of p) m) values state answer) ≡ Err d → Refutes p d
  refutes_classified d is = refutes_by (classify_of (node_at (problem_of p) m) values state answer) d refl is

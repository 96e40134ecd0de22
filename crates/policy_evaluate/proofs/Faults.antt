-- The meaning of faults as they are handed on.
use Rattle.std.proofs.Common.{◌≡◌, ◌∙◌, ℕ, zero, suc, ◌+◌, ℤ, List, Result, Ok, Err, IfOk, refl, sym, ap, subst, arith}
use Rattle.base_num.specs.Steps.{◌>>=◌}
use Rattle.plan_answer.specs.declared.classifying.Infeasibility.{Infeasibility}
use Rattle.plan_answer.specs.declared.plan_fault.PlanFault.TheVariants as plans
use Rattle.problem.specs.Validated.{Validated}
use Rattle.theory.specs.View.{problem_of}
use Rattle.theory.specs.Problem.{Successor, Node, Problem, node_at, realization_weight, successor_weight}
use Rattle.plan_draw.specs.declared.steps.PathStep.{PathStep}
use Rattle.plan_forward.specs.declared.deciding.Decided.{Decided}
use Rattle.plan_forward.specs.Costing.{stage_cost_of}
use Rattle.policy_evaluate.specs.declared.costs.Walked.{Walked}
use Rattle.policy_evaluate.specs.declared.walking.Fault.{Fault}
use Rattle.policy_evaluate.specs.declared.walking.Fault.TheVariants as faults
use Rattle.policy_evaluate.specs.PolicyTree.{Deciding, Stop, stop_behind, infeasible, missed}
use Rattle.policy_evaluate.specs.Costs.{add_stage, branch_cost, branch_costs, successor_costs, no_cost, share, tree_cost}
use Rattle.policy_evaluate.specs.Small.{IsCost}
use Rattle.policy_evaluate.specs.TooBig.{branches, denominator}
use Rattle.policy_evaluate.specs.Verdicts.{OnInfeasible, VerdictStops}

-- a fault that stops one thing stops another
pub stops_on : {A B : Type 0} (f : Fault) (a : Result A Stop) (b : Result B Stop) → ((s : Stop) → a ≡ Err s → b ≡ Err s) → VerdictStops f a → VerdictStops f b
stops_on (faults.Missed m) a b h g = h (missed m) g
stops_on (faults.Stopped (plans.Infeasible d)) a b h g = h (infeasible d) g
stops_on (faults.Stopped (plans.Range k m r)) a b h g = absurd g
stops_on (faults.Stopped plans.DiskFault) a b h g = absurd g
stops_on (faults.Stopped plans.Memory) a b h g = tt

-- and so it is with what holds of an infeasibility
pub infeasible_on : (A B : Type 0) (f : Fault) (P : Infeasibility → Type 0) → OnInfeasible {A = A} (Err f) P → OnInfeasible {A = B} (Err f) P
infeasible_on A B (faults.Missed m) P h = tt
infeasible_on A B (faults.Stopped (plans.Infeasible d)) P h = h
infeasible_on A B (faults.Stopped (plans.Range k m r)) P h = tt
infeasible_on A B (faults.Stopped plans.DiskFault) P h = tt
infeasible_on A B (faults.Stopped plans.Memory) P h = tt

pub infeasible_behind : (A B : Type 0) (f : Fault) (r : Result A Fault) (P : Infeasibility → Type 0) → ((d : Infeasibility) → f ≡ faults.Stopped (plans.Infeasible d) → r ≡ Err (faults.Stopped (plans.Infeasible d))) → OnInfeasible r P → OnInfeasible {A = B} (Err f) P
infeasible_behind A B (faults.Missed m) r P h o = tt
infeasible_behind A B (faults.Stopped (plans.Infeasible d)) r P h o = subst (λ (r : Result A Fault). OnInfeasible r P) (h d refl) o
infeasible_behind A B (faults.Stopped (plans.Range k m i)) r P h o = tt
infeasible_behind A B (faults.Stopped plans.DiskFault) r P h o = tt
infeasible_behind A B (faults.Stopped plans.Memory) r P h o = tt

-- a property of an answer
pub ok_of : {A E : Type 0} (r : Result A E) (x : A) (P : A → Type 0) → r ≡ Ok x → IfOk r P → P x
ok_of {A} {E} r x P e h = subst (λ (r : Result A E). IfOk r P) e h

pub successors_same : (go : List ℤ → ℕ → ℕ → Result Walked Stop) (x y : List ℤ) (j k : ℕ) (ls ms : List Successor) → x ≡ y → j ≡ k → ls ≡ ms → successor_costs (go x) (no_cost j) ls ≡ successor_costs (go y) (no_cost k) ms
successors_same go x y j k ls ms e f h =
    ap (λ (x : List ℤ). successor_costs (go x) (no_cost j) ls) e ∙ ap (λ (j : ℕ). successor_costs (go y) (no_cost j) ls) f ∙ ap (λ (ls : List Successor). successor_costs (go y) (no_cost k) ls) h

-- nothing costs nothing
pub none_cost : (p : Validated) (n m decided : ℕ) → n ≡ zero → IsCost p n (denominator (problem_of p) n m) 1 (decided + branches (problem_of p) n m) (no_cost decided)
none_cost p n m decided e = subst (λ (n : ℕ). IsCost p n (denominator (problem_of p) n m) 1 (decided + branches (problem_of p) n m) (no_cost decided)) (sym e) (record { under = refl; small = omega arith; decided = omega arith })

-- a branch, by what is decided there and what its successors cost
module _ (decide : Deciding) (go : List ℤ → ℕ → ℕ → Result Walked Stop) (n : Node) (decided : ℕ) (s : PathStep) (values x : List ℤ) where
  abbrev pub behind_it : Decided → Result Walked Stop
  behind_it d = stop_behind s (successor_costs (go d.next) (no_cost (suc decided)) n.successors)

  abbrev whole : Decided → Walked → Result Walked Stop
  whole d w = Ok (add_stage (successor_weight n) (stage_cost_of n d.decisions x values) w)

  pub branch_done : (d : Decided) (w : Walked) → decide decided s values x ≡ Ok d → behind_it d ≡ Ok w → branch_cost decide go n decided s values x ≡ Ok (add_stage (successor_weight n) (stage_cost_of n d.decisions x values) w)
  branch_done d w e h = ap (λ (r : Result Decided Stop). r >>= λ d. behind_it d >>= whole d) e ∙ ap (λ (r : Result Walked Stop). r >>= whole d) h

  branch_undecided : (t : Stop) → decide decided s values x ≡ Err t → branch_cost decide go n decided s values x ≡ Err t
  branch_undecided t e = ap (λ (r : Result Decided Stop). r >>= λ d. behind_it d >>= whole d) e

  branch_behind : (d : Decided) (t : Stop) → decide decided s values x ≡ Ok d → behind_it d ≡ Err t → branch_cost decide go n decided s values x ≡ Err t
  branch_behind d t e h = ap (λ (r : Result Decided Stop). r >>= λ d. behind_it d >>= whole d) e ∙ ap (λ (r : Result Walked Stop). r >>= whole d) h

  -- a fault of the decision or of the walk behind it stops the branch
  pub undecided_fault : (f : Fault) → VerdictStops f (decide decided s values x) → VerdictStops f (branch_cost decide go n decided s values x)
  undecided_fault f h = stops_on f (decide decided s values x) (branch_cost decide go n decided s values x) branch_undecided h

  pub behind_fault : (d : Decided) (f : Fault) → decide decided s values x ≡ Ok d → VerdictStops f (behind_it d) → VerdictStops f (branch_cost decide go n decided s values x)
  behind_fault d f e h = stops_on f (behind_it d) (branch_cost decide go n decided s values x) (λ t h. branch_behind d t e h) h

-- a tree, by its branches
module _ (decide : Deciding) (p : Problem) (n k : ℕ) (x : List ℤ) (decided m : ℕ) where
  abbrev pub branches_there : Result Walked Stop
  branches_there = branch_costs decide (tree_cost decide p k) (node_at p m) m (no_cost decided) 0 (node_at p m).realizations x

  abbrev shared : Walked → Result Walked Stop
  shared w = Ok (share (realization_weight (node_at p m)) w)

  pub tree_done : n ≡ suc k → (w : Walked) → branches_there ≡ Ok w → tree_cost decide p n x decided m ≡ Ok (share (realization_weight (node_at p m)) w)
  tree_done e w h = ap (λ (n : ℕ). tree_cost decide p n x decided m) e ∙ ap (λ (r : Result Walked Stop). r >>= shared) h

  tree_stops : n ≡ suc k → (t : Stop) → branches_there ≡ Err t → tree_cost decide p n x decided m ≡ Err t
  tree_stops e t h = ap (λ (n : ℕ). tree_cost decide p n x decided m) e ∙ ap (λ (r : Result Walked Stop). r >>= shared) h

  pub tree_fault : n ≡ suc k → (f : Fault) → VerdictStops f branches_there → VerdictStops f (tree_cost decide p n x decided m)
  tree_fault e f h = stops_on f branches_there (tree_cost decide p n x decided m) (tree_stops e) h

  pub tree_none : n ≡ zero → tree_cost decide p n x decided m ≡ Ok (no_cost decided)
  tree_none e = ap (λ (n : ℕ). tree_cost decide p n x decided m) e

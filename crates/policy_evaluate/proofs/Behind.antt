-- The successors behind a branch, as code reads them.
use Rattle.std.proofs.Common.{◌≡◌, ◌∙◌, ℕ, suc, ◌+◌, ◌*◌, ◌<◌, ◌≤◌, ◌^◌, ℤ, pos, ◌+ℤ◌, ◌*ℤ◌, nat_abs, FitsSigned, true, nat_lt, List, length, sum, Contains, Result, Ok, IfOk, Option, Some, IfSome, slice_get, sym, ap, ap₂, subst, arith}
use Rattle.std.specs.Int.{w128}
use Rattle.std.specs.List.{list_all}
use Rattle.problem.specs.declared.parts.Node as nodes
use Rattle.problem.specs.Formulas.{successor_total}
use Rattle.problem.specs.Parts.{successors_at}
use Rattle.problem.specs.Validated.{Validated, is_validated}
use Rattle.theory.specs.Problem.{S, Successor, Node, node_at, successor_weights, successor_weight}
use Rattle.theory.specs.Tree.{InBox}
use Rattle.theory.specs.View.{successors_of, problem_of}
use Rattle.theory.proofs.ValidatedPremises.{known-validated}
use Rattle.plan_forward.specs.Costing.{stage_cost_of}
use Rattle.cut_pool.specs.AtNodes.{IsStateAt}
use Rattle.policy_evaluate.specs.declared.costs.Walked.{Walked}
use Rattle.policy_evaluate.specs.declared.walking.Fault.{Fault}
use Rattle.policy_evaluate.specs.PolicyTree.{Stop}
use Rattle.policy_evaluate.specs.Costs.{add_stage, successor_costs, no_cost}
use Rattle.policy_evaluate.specs.Small.{IsCost, IsSmall, successor_branches, successor_denominator, most_cost}
use Rattle.policy_evaluate.specs.Verdicts.{GivesWalk}
use Rattle.policy_evaluate.proofs.Branching.{behind_small, stage_cost_is, stage_fits, stage_under, stage_whole}
use Rattle.policy_evaluate.proofs.Faults.{successors_same, ok_of}
use Rattle.policy_evaluate.proofs.Seen.{Seen, successors_there, seen, successor_sum, within_successors}

-- the successors of the node m, as code reads them
pub record WeightedNodes (p : Validated) (m : ℕ) (own : nodes.Node) (ms ws : List ℕ) : Type 0 where
  pub validated : is_validated p ≡ true
  pub known : m < length p.parts.nodes
  pub is : slice_get p.parts.nodes m ≡ Some own
  pub successors : ms ≡ own.successors
  pub weights : ws ≡ own.successor_weights

pub successors : {p : Validated} {m : ℕ} {own : nodes.Node} {ms ws : List ℕ} → is_validated p ≡ true → m < length p.parts.nodes → slice_get p.parts.nodes m ≡ Some own → ms ≡ own.successors → ws ≡ own.successor_weights → WeightedNodes p m own ms ws
successors e known is em ew = record { validated = e; known = known; is = is; successors = em; weights = ew }

-- each step of adding a stage's cost stays inside its type
pub record StageFits (weight : ℕ) (z : ℤ) (w : Walked) : Type 0 where
  pub under : weight * w.under < 2 ^ 64
  pub stage : FitsSigned w128 (pos (weight * w.under) *ℤ z)
  pub whole : FitsSigned w128 (pos (weight * w.under) *ℤ z +ℤ w.up)

module _ {p : Validated} {m : ℕ} {own : nodes.Node} {ms ws : List ℕ} (b : WeightedNodes p m own ms ws) where
  abbrev n : Node
  n = node_at (problem_of p) m

  q : Seen p m own
  q = seen p m own b.validated b.known b.is

  successors_are : n.successors ≡ successors_of ms ws
  successors_are = q.successors ∙ ap₂ successors_of (sym b.successors) (sym b.weights)

  within_all : sum (successor_weights n.successors) ≤ successor_weight n
  within_all = within_successors n.stop n.successors

  pub behind_known : list_all (λ k. nat_lt k (length p.parts.nodes)) ms ≡ true
  behind_known = subst (λ (ks : List ℕ). list_all (λ k. nat_lt k (length p.parts.nodes)) ks ≡ true) (sym b.successors) q.known

  pub behind_counted : length ws ≡ length ms
  behind_counted = ap (λ (ks : List ℕ). length ks) b.weights ∙ q.counted ∙ sym (ap (λ (ks : List ℕ). length ks) b.successors)

  pub behind_state : (x y : List ℤ) → y ≡ x → ((j : ℕ) → Contains (successors_at p.parts m) j → IsStateAt p j x) → (j : ℕ) → Contains ms j → IsStateAt p j y
  behind_state x y same next j c = subst (λ (y : List ℤ). IsStateAt p j y) (sym same) (next j (subst (λ (ks : List ℕ). Contains ks j) (b.successors ∙ sym (successors_there p m own b.is)) c))

  pub behind_weight : (a : ℕ) → IfSome (slice_get p.parts.nodes m) (λ (n : nodes.Node). a ≡ successor_total n.stop n.successor_weights) → a ≡ successor_weight n
  behind_weight a h = subst (λ (o : Option nodes.Node). IfSome o (λ (n : nodes.Node). a ≡ successor_total n.stop n.successor_weights)) b.is h ∙ successor_sum p m own q

  module _ (k decided : ℕ) where
    -- the branch, and all that is behind it
    abbrev IsLittle : Type 0
    IsLittle = IsSmall p (suc k) (successor_weight n * successor_denominator p k n.successors) 1 decided (1 + successor_branches p k n.successors)

    -- the costs of these successors
    abbrev AreCosts : List Successor → Walked → Type 0
    AreCosts ls = IsCost p k (successor_denominator p k ls) (sum (successor_weights ls)) (decided + 1 + successor_branches p k ls)

    pub behind_less : IsLittle → IsSmall p k (successor_denominator p k (successors_of ms ws)) (sum (successor_weights (successors_of ms ws))) (decided + 1) (successor_branches p k (successors_of ms ws))
    behind_less small =
        subst (λ (ls : List Successor). IsSmall p k (successor_denominator p k ls) (sum (successor_weights ls)) (decided + 1) (successor_branches p k ls)) successors_are
        (behind_small p k (successor_weight n) (successor_denominator p k n.successors) (sum (successor_weights n.successors)) decided (successor_branches p k n.successors) ((known-validated p b.validated).weighted m b.known) within_all small)

    -- the walk behind the branch
    pub behind_gives : (go : List ℤ → ℕ → ℕ → Result Walked Stop) (x y : List ℤ) (r : Result Walked Fault) → y ≡ x → GivesWalk r (successor_costs (go y) (no_cost (decided + 1)) (successors_of ms ws)) → GivesWalk r (successor_costs (go x) (no_cost (suc decided)) n.successors)
    behind_gives go x y r same g = subst (λ (d : Result Walked Stop). GivesWalk r d) (successors_same go y x (decided + 1) (suc decided) (successors_of ms ws) n.successors same (omega arith) (sym successors_are)) g

    -- the cost of the branch, by its stage and what the walk behind it gave
    module _ (small : IsLittle) (w : Walked) (r : Result Walked Fault) (ok : r ≡ Ok w) (is : IfOk r (AreCosts (successors_of ms ws))) (x v d u : List ℤ) (limit : (u : List ℤ) → InBox S n.decision_low n.decision_high u → nat_abs (stage_cost_of n u x v) ≤ most_cost p 1)
        (inside : InBox S n.decision_low n.decision_high d) (read : u ≡ d) (z : ℤ) (stage : z ≡ stage_cost_of n u x v) where
      size : nat_abs z ≤ most_cost p 1
      size = subst (λ (z : ℤ). nat_abs z ≤ most_cost p 1) (sym stage) (limit u (subst (λ (u : List ℤ). InBox S n.decision_low n.decision_high u) (sym read) inside))

      costs : AreCosts n.successors w
      costs = subst (λ (ls : List Successor). AreCosts ls w) (sym successors_are) (ok_of r w (AreCosts (successors_of ms ws)) ok is)

      pub behind_fits : StageFits (successor_weight n) z w
      behind_fits = record {
        under = stage_under p k (successor_weight n) (successor_denominator p k n.successors) (sum (successor_weights n.successors)) decided (successor_branches p k n.successors) z w within_all small costs size;
        stage = stage_fits p k (successor_weight n) (successor_denominator p k n.successors) (sum (successor_weights n.successors)) decided (successor_branches p k n.successors) z w within_all small costs size;
        whole = stage_whole p k (successor_weight n) (successor_denominator p k n.successors) (sum (successor_weights n.successors)) decided (successor_branches p k n.successors) z w within_all small costs size;
      }

      pub behind_cost : IsCost p (suc k) (successor_weight n * successor_denominator p k n.successors) 1 (decided + (1 + successor_branches p k n.successors)) (add_stage (successor_weight n) z w)
      behind_cost = stage_cost_is p k (successor_weight n) (successor_denominator p k n.successors) (sum (successor_weights n.successors)) decided (successor_branches p k n.successors) z w within_all small costs size

-- The tree of a node, by its branches, as code reads them.
use Rattle.std.proofs.Common.{◌≡◌, ◌∙◌, ℕ, suc, ◌+◌, ◌-◌, ◌*◌, ◌<◌, ◌≤◌, ◌^◌, true, List, length, sum, Some, slice_get, sym, ap, subst}
use Rattle.problem.specs.declared.parts.Node as nodes
use Rattle.problem.specs.Formulas.{total_weight}
use Rattle.problem.specs.Validated.{Validated, is_validated}
use Rattle.theory.specs.Problem.{Node, Problem, node_at, realization_weight, successor_weight}
use Rattle.theory.specs.View.{problem_of}
use Rattle.theory.proofs.ValidatedPremises.{known-validated}
use Rattle.policy_evaluate.specs.declared.costs.Walked.{Walked}
use Rattle.policy_evaluate.specs.Costs.{share}
use Rattle.policy_evaluate.specs.Small.{IsCost, IsSmall, successor_branches, successor_denominator}
use Rattle.policy_evaluate.specs.TooBig.{branches, denominator}
use Rattle.policy_evaluate.proofs.Branching.{share_cost, share_fits, tree_small}
use Rattle.policy_evaluate.proofs.Seen.{Seen, realization_total, seen}

module _ (p : Validated) (e : is_validated p ≡ true) (m : ℕ) (known : m < length p.parts.nodes) (k decided : ℕ) (one : k ≡ suc (k - 1)) where
  abbrev P : Problem
  P = problem_of p

  abbrev n : Node
  n = node_at P m

  -- the branches of the tree stand over this number, and are so many
  abbrev under : ℕ
  under = successor_weight n * successor_denominator p (k - 1) n.successors

  abbrev count : ℕ
  count = length n.realizations * (1 + successor_branches p (k - 1) n.successors)

  abbrev IsLittle : Type 0
  IsLittle = IsSmall p k (denominator P k m) 1 decided (branches P k m)

  pub tree_less : IsLittle → IsSmall p (suc (k - 1)) under (realization_weight n) decided count
  tree_less small = tree_small p (k - 1) m decided ((known-validated p e).realizations m known) (subst (λ (i : ℕ). IsSmall p i (denominator P i m) 1 decided (branches P i m)) one small)

  -- over the weights of the branches, as they were read
  module _ (own : nodes.Node) (is : slice_get p.parts.nodes m ≡ Some own) (ws : List ℕ) (weights : ws ≡ own.weights) where
    q : Seen p m own
    q = seen p m own e known is

    pub tree_light : sum ws ≤ 65535
    tree_light = subst (λ (ks : List ℕ). sum ks ≤ 65535) (sym weights) q.light

    module _ (a : ℕ) (total : a ≡ total_weight ws) where
      weight : a ≡ realization_weight n
      weight = total ∙ ap (λ (ks : List ℕ). total_weight ks) weights ∙ realization_total p m own q

      pub tree_share : (w s : Walked) → s ≡ share a w → share (realization_weight n) w ≡ s
      tree_share w s shared = sym (shared ∙ ap (λ (a : ℕ). share a w) weight)

      module _ (w : Walked) (cost : IsCost p (suc (k - 1)) under (realization_weight n) (decided + count) w) where
        pub tree_fits : IsLittle → a * w.under < 2 ^ 64
        tree_fits small = subst (λ (a : ℕ). a * w.under < 2 ^ 64) (sym weight) (share_fits p (suc (k - 1)) under (realization_weight n) (decided + count) w cost (tree_less small).weighted)

        pub tree_cost_is : (s : Walked) → s ≡ share a w → IsCost p k (denominator P k m) 1 (decided + branches P k m) s
        tree_cost_is s shared =
            subst (λ (s : Walked). IsCost p k (denominator P k m) 1 (decided + branches P k m) s) (tree_share w s shared)
            (subst (λ (i : ℕ). IsCost p i (denominator P i m) 1 (decided + branches P i m) (share (realization_weight n) w)) (sym one) (share_cost p (k - 1) m decided w cost))

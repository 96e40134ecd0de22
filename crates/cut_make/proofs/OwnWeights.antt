-- The weights of a validated problem's node are such as may be given.
use Rattle.std.proofs.Common.{◌≡◌, ℕ, ◌<◌, ◌≤◌, ℤ, true, List, length, get_or, nat_lt, sym, ap, ◌∙◌, subst, arith}
use Rattle.std.proofs.lemmas.Bool.Decides.{nat_tests}
use Rattle.std.proofs.lemmas.Option.{get_or_from_slice_get}
use Rattle.problem.specs.declared.parts.ProblemParts.{ProblemParts}
use Rattle.problem.specs.declared.parts.Node as nodes
use Rattle.problem.specs.declared.parts.Subproblem.{Subproblem}
use Rattle.problem.specs.Validated.{Validated, is_validated}
use Rattle.base_num.proofs.Tests.{all_at}
use Rattle.theory.specs.Problem.{Node, node_at, with_weights}
use Rattle.theory.specs.View.{node_of, problem_of}
use Rattle.theory.proofs.ValidatedParts.{PartsFit, Parts, parts_of_node, weighty, weights_positive}
use Rattle.cut_make.specs.Reweighting.{Weighs}
use Rattle.cut_make.proofs.GivenNode.{length-realizations, with_weights-own}

-- such as may be given, and they change nothing
pub record OwnWeights (ws : List ℕ) (k : Node) : Type 0 where
  pub weighs : Weighs k ws
  pub own : with_weights ws k ≡ k

own_weights : (p : Validated) (m : ℕ) (n : nodes.Node) (s : Subproblem) (low high : List ℤ) → PartsFit p m n s low high → OwnWeights n.weights (node_of n s low high)
own_weights p m n s low high fit =
    let w = weighty n (length s.randoms) fit.realizations in
    record {
      weighs = record {
        count = sym (length-realizations n s low high w.3);
        positive = λ k d h. some (get_or n.weights k d) (all_at (λ w. nat_lt 0 w) n.weights k d (weights_positive n (length s.randoms) fit.realizations) h);
        total = w.2;
      };
      own = with_weights-own n s low high w.3;
    }
  where
    some : (w : ℕ) → nat_lt 0 w ≡ true → 1 ≤ w
    some w h = grind (arith, nat_tests)

-- the weights of the node that a problem gives out
pub own_weights-validated : (p : Validated) (parts : ProblemParts) (ns : List nodes.Node) (ws : List ℕ) (m : ℕ) (n : nodes.Node) → is_validated p ≡ true → parts ≡ p.parts → ns ≡ parts.nodes → m < length p.parts.nodes → n ≡ get_or ns m n → ws ≡ n.weights → OwnWeights ws (node_at (problem_of p) m)
own_weights-validated p parts ns ws m n e is list h at eq =
    let q : Parts p m = parts_of_node p m e h in
    let same : n ≡ q.node = at ∙ ap (λ (ks : List nodes.Node). get_or ks m n) (list ∙ ap (λ (r : ProblemParts). r.nodes) is) ∙ get_or_from_slice_get p.parts.nodes m q.node n q.fit.the_node in
    let weights : ws ≡ q.node.weights = eq ∙ ap (λ (k : nodes.Node). k.weights) same in
    subst (λ (k : Node). OwnWeights ws k) (sym q.fit.is) (subst (λ (vs : List ℕ). OwnWeights vs (node_of q.node q.subproblem q.low q.high)) (sym weights) (own_weights p m q.node q.subproblem q.low q.high q.fit))

-- A node with given weights, and with its own.
use Rattle.std.proofs.Common.{◌≡◌, ℕ, suc, ℤ, List, [], ◌∷◌, length, refl, ap, ◌∙◌, arith}
use Rattle.problem.specs.declared.parts.Node as nodes
use Rattle.problem.specs.declared.parts.Subproblem.{Subproblem}
use Rattle.theory.specs.Problem.{Realization, Node, reweighted, with_weights}
use Rattle.theory.specs.View.{node_of, successors_of, realizations_of}
use Rattle.theory.proofs.Views.{length-successors_of}

length-reweighted : (ws vs : List ℕ) (values : List (List ℤ)) → length ws ≡ length vs → length values ≡ length vs → length (reweighted ws (realizations_of vs values)) ≡ length ws
length-reweighted [] vs values e f = refl
length-reweighted (w ∷ ws) [] values e f = absurd (omega arith)
length-reweighted (w ∷ ws) (v ∷ vs) [] e f = absurd (omega arith)
length-reweighted (w ∷ ws) (v ∷ vs) (x ∷ values) e f = ap suc (length-reweighted ws vs values (omega arith) (omega arith))

own : (ws : List ℕ) (values : List (List ℤ)) → length values ≡ length ws → reweighted ws (realizations_of ws values) ≡ realizations_of ws values
own [] values e = refl
own (w ∷ ws) [] e = absurd (omega arith)
own (w ∷ ws) (x ∷ values) e = ap (λ (rs : List Realization). record { weight = w; values = x } ∷ rs) (own ws values (omega arith))

length-realizations_of : (ws : List ℕ) (values : List (List ℤ)) → length values ≡ length ws → length (realizations_of ws values) ≡ length ws
length-realizations_of [] values e = refl
length-realizations_of (w ∷ ws) [] e = absurd (omega arith)
length-realizations_of (w ∷ ws) (x ∷ values) e = ap suc (length-realizations_of ws values (omega arith))

pub length-realizations : (n : nodes.Node) (s : Subproblem) (low high : List ℤ) → length n.values ≡ length n.weights → length (node_of n s low high).realizations ≡ length n.weights
unfolding node_of
length-realizations n s low high e = length-realizations_of n.weights n.values e

module _ (n : nodes.Node) (s : Subproblem) (low high : List ℤ) (ws : List ℕ) where
  pub rows-given : (with_weights ws (node_of n s low high)).rows ≡ s.rows
  unfolding node_of
  rows-given = refl

  pub successors-given : (with_weights ws (node_of n s low high)).successors ≡ successors_of n.successors n.successor_weights
  unfolding node_of
  successors-given = refl

  pub realizations-given : length ws ≡ length n.weights → length n.values ≡ length n.weights → length (with_weights ws (node_of n s low high)).realizations ≡ length ws
  unfolding node_of
  realizations-given e f = length-reweighted ws n.weights n.values e f

-- the node's own weights change nothing
pub with_weights-own : (n : nodes.Node) (s : Subproblem) (low high : List ℤ) → length n.values ≡ length n.weights → with_weights n.weights (node_of n s low high) ≡ node_of n s low high
unfolding node_of
with_weights-own n s low high e = ap (λ (rs : List Realization). record (node_of n s low high) { realizations = rs }) (own n.weights n.values e)

-- the walk's view of a node with given weights
pub record Seen (ws : List ℕ) (n : nodes.Node) (s : Subproblem) (k : Node) : Type 0 where
  pub rows : k.rows ≡ s.rows
  pub successors : k.successors ≡ successors_of n.successors n.successor_weights
  pub count : length k.realizations ≡ length ws
  pub successors_count : length n.successor_weights ≡ length n.successors → length k.successors ≡ length n.successors

pub seen : (k : Node) (n : nodes.Node) (s : Subproblem) (low high : List ℤ) (ws : List ℕ) → k ≡ with_weights ws (node_of n s low high) → length ws ≡ length n.weights → length n.values ≡ length n.weights → Seen ws n s k
seen k n s low high ws e h i = record {
  rows = ap (λ (k : Node). k.rows) e ∙ rows-given n s low high ws;
  successors = successors;
  count = ap (λ (k : Node). length k.realizations) e ∙ realizations-given n s low high ws h i;
  successors_count = λ f. ap length successors ∙ length-successors_of n.successors n.successor_weights f;
}
  where
    successors : k.successors ≡ successors_of n.successors n.successor_weights
    successors = ap (λ (k : Node). k.successors) e ∙ successors-given n s low high ws

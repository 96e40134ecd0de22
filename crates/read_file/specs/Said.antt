-- Ties a problem file to the parts that the reader gives.
use Rattle.std.specs.Prelude.{◌≡◌, ℕ, ℤ, List, [], ◌∷◌, map, slice_get, Some, IsSomeAnd}
use Rattle.problem.specs.declared.parts.State as states
use Rattle.problem.specs.declared.parts.Node as nodes
use Rattle.problem.specs.declared.parts.ProblemParts.{ProblemParts}
use Rattle.problem.specs.Parts.{own_subproblem}
use Rattle.problem.specs.Validated.{initial_values}
use Rattle.read_profile.specs.File.{Name, FileRealization, FileSuccessor, FileNode, File}
use Rattle.read_stage.specs.Said.{StageSaid}

-- the lists are equally long, and P holds of what stands beside each other
abbrev pub Together : {A B C : Type 0} → (A → B → C → Type 0) → List A → List B → List C → Type 0
Together P [] [] [] = Unit {0}
Together P [] [] (c ∷ cs) = ⊥
Together P [] (b ∷ bs) cs = ⊥
Together P (a ∷ tail) [] cs = ⊥
Together P (a ∷ tail) (b ∷ bs) [] = ⊥
Together P (a ∷ tail) (b ∷ bs) (c ∷ cs) = P a b c × Together P tail bs cs

abbrev pub state_names : ProblemParts → List Name
state_names parts = map (λ (q : states.State). q.name) parts.states

abbrev pub node_names : ProblemParts → List Name
node_names parts = map (λ (n : nodes.Node). n.name) parts.nodes

-- a realization with this weight and these values of the random variables
pub record RealizationSaid (randoms : List Name) (r : FileRealization) (w : ℕ) (zs : List ℤ) : Type 0 where
  pub weight : r.weight ≡ w
  pub values : map r.support randoms ≡ map Some zs

-- a successor with this number and this weight
pub record SuccessorSaid (names : List Name) (l : FileSuccessor) (m : ℕ) (w : ℕ) : Type 0 where
  pub node : slice_get names m ≡ Some l.node
  pub weight : l.weight ≡ w

pub record NodeSaid (parts : ProblemParts) (n : nodes.Node) (k : FileNode) : Type 0 where
  pub stage : IsSomeAnd (own_subproblem parts n) (StageSaid (state_names parts) k.stage)
  pub realizations : Together (RealizationSaid k.stage.randoms) k.realizations n.weights n.values
  pub successors : Together (SuccessorSaid (node_names parts)) k.successors n.successors n.successor_weights
  pub stop : k.stop ≡ n.stop

pub record FileSaid (parts : ProblemParts) (f : File) : Type 0 where
  pub states : f.states ≡ state_names parts
  pub names : f.names ≡ node_names parts
  pub initial : map f.initial f.states ≡ map Some (initial_values parts)
  pub root : Together (SuccessorSaid (node_names parts)) f.root parts.root parts.root_weights
  pub nodes : (m : ℕ) (n : nodes.Node) → slice_get parts.nodes m ≡ Some n → IsSomeAnd (f.nodes n.name) (NodeSaid parts n)

-- Ties a problem file to the problem that the reader gives.
use Rattle.std.specs.Prelude.{◌≡◌, ◌↔◌, ℕ, ℤ, List, [], ◌∷◌, map, slice_get, All, true, Option, Some, None}
use Rattle.problem.specs.declared.parts.State as parts
use Rattle.problem.specs.declared.parts.Decision.{Decision}
use Rattle.problem.specs.declared.parts.Subproblem.{Subproblem}
use Rattle.problem.specs.declared.parts.Node as nodes
use Rattle.problem.specs.Validated.{Validated, subproblem_of}
use Rattle.theory.specs.Problem as theory
use Rattle.theory.specs.Problem.{node_at}
use Rattle.theory.specs.Tree.{Tree, Forest, no_branch, branch, no_tree, tree, InBox, Decides, next_state}
use Rattle.theory.specs.Cost.{stage}
use Rattle.theory.specs.View.{problem_of}
use Rattle.read_profile.specs.File.{Name, Numbers, Constraint, State, Stage, FileRealization, FileSuccessor, FileNode}
use Rattle.read_meaning.specs.Meaning as meaning
use Rattle.read_meaning.specs.Meaning.{Volumes, in_units, Satisfies, leaving, stage_cost, FilePlan, Plans, no_plan, plan}

-- both lists are equally long, and P holds of each pair
abbrev pub Pairs : {A B : Type 0} → (A → B → Type 0) → List A → List B → Type 0
Pairs P [] [] = Unit {0}
Pairs P [] (y ∷ ys) = ⊥
Pairs P (x ∷ xs) [] = ⊥
Pairs P (x ∷ xs) (y ∷ ys) = P x y × Pairs P xs ys

-- the names of the nodes and of the states, and the names of a node's decisions
abbrev pub validated_node_names : Validated → List Name
validated_node_names s = map (λ (n : nodes.Node). n.name) s.parts.nodes

abbrev pub validated_state_names : Validated → List Name
validated_state_names s = map (λ (q : parts.State). q.name) s.parts.states

abbrev pub decisions_in : Option Subproblem → List Name
decisions_in None = []
decisions_in (Some sub) = map (λ (d : Decision). d.name) sub.decisions

abbrev pub own : Validated → ℕ → List Name
own s m = decisions_in (subproblem_of s m)

-- the numbers of a plan as decisions
abbrev mutual
  pub tree_of : Validated → ℕ → FilePlan → Tree
  tree_of s m meaning.no_branch = no_branch
  tree_of s m (meaning.branch y ps p) = branch (map y (own s m)) (forest_of s (node_at (problem_of s) m).successors ps) (tree_of s m p)

  pub forest_of : Validated → List theory.Successor → Plans → Forest
  forest_of s ks no_plan = no_tree
  forest_of s [] (plan p ps) = tree no_branch no_tree
  forest_of s (k ∷ ks) (plan p ps) = tree (tree_of s k.node p) (forest_of s ks ps)

-- the volumes are these numbers, in the order of the states' names
abbrev pub Are : Validated → Volumes → List ℤ → Type 0
Are s x xi = map x (validated_state_names s) ≡ map Some xi

-- At an incoming state of the node's box, numbers that have it and the realized values keep the constraints exactly where the decisions
-- among them meet rows and boxes. They lead to the same state and cost the same.
pub record SameStage (s : Validated) (m : ℕ) (st : Stage) (r : FileRealization) (q : theory.Realization) : Type 0 where
  pub weight : r.weight ≡ q.weight
  pub kept : (units : ℕ) (x : Volumes) (xi : List ℤ) (y : Numbers) → Are s x xi → InBox units (node_at (problem_of s) m).low (node_at (problem_of s) m).high xi
      → All (λ (t : State). x t.name ≡ Some (y t.before)) st.states → All (λ (v : Name). in_units units (r.support v) ≡ Some (y v)) st.randoms
      → All (λ (c : Constraint). c units y ≡ true) st.constraints ↔ Decides units (node_at (problem_of s) m) q.values xi (map y (own s m))
  pub next : (units : ℕ) (x : Volumes) (xi : List ℤ) (y : Numbers) → Are s x xi → Satisfies units st r x y → Are s (leaving st.states y) (next_state (node_at (problem_of s) m) (map y (own s m)))
  pub cost : (units : ℕ) (x : Volumes) (xi : List ℤ) (y : Numbers) → Are s x xi → Satisfies units st r x y → stage_cost units st y ≡ stage units (node_at (problem_of s) m) q.values xi (map y (own s m))

-- a successor, by its name and by its number
pub record SameSuccessor (s : Validated) (l : FileSuccessor) (k : theory.Successor) : Type 0 where
  pub node : slice_get (validated_node_names s) k.node ≡ Some l.node
  pub weight : l.weight ≡ k.weight

pub record SameNode (s : Validated) (m : ℕ) (n : FileNode) : Type 0 where
  pub realizations : Pairs (SameStage s m n.stage) n.realizations (node_at (problem_of s) m).realizations
  pub successors : Pairs (SameSuccessor s) n.successors (node_at (problem_of s) m).successors
  pub stop : n.stop ≡ (node_at (problem_of s) m).stop

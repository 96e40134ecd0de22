-- The parts of one node, from the lists by node.
use Rattle.std.proofs.Common.{◌≡◌, ℕ, List, [], map, get_or, Some, slice_get, ap, ◌∙◌}
use Rattle.std.proofs.lemmas.List.{get_or-map}
use Rattle.std.proofs.lemmas.Option.{slice_get_within, get_or_from_slice_get}
use Rattle.problem.specs.declared.parts.Node.{Node}
use Rattle.problem.specs.declared.parts.ProblemParts.{ProblemParts}
use Rattle.problem.specs.Parts.{successors_at, weights_at}

pub part_at : {A : Type 0} (part : Node → A) (nodes : List Node) (m : ℕ) (n : Node) (d : A) → slice_get nodes m ≡ Some n → get_or (map part nodes) m d ≡ part n
part_at part nodes m n d is = get_or-map part nodes m n d (slice_get_within nodes m n is) ∙ ap part (get_or_from_slice_get nodes m n n is)

pub weights_are : (parts : ProblemParts) (m : ℕ) (n : Node) → slice_get parts.nodes m ≡ Some n → weights_at parts m ≡ n.weights
weights_are parts m n is = part_at (λ (x : Node). x.weights) parts.nodes m n [] is

pub successors_are : (parts : ProblemParts) (m : ℕ) (n : Node) → slice_get parts.nodes m ≡ Some n → successors_at parts m ≡ n.successors
successors_are parts m n is = part_at (λ (x : Node). x.successors) parts.nodes m n [] is

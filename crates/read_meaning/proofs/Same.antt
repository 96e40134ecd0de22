-- The clauses of the law, of the bytes of a problem that is read.
use Rattle.std.proofs.Common.{◌≡◌, ◌↔◌, ℕ, ℤ, true, List, map, slice_get, Ok, Option, None, Some, IsSomeAnd}
use Rattle.problem.specs.Validated.{Validated, is_validated}
use Rattle.read_file.specs.Problem.{problem_at}
use Rattle.read_file.specs.Said.{FileSaid}
use Rattle.read_file.proofs.FileWhole.{file-says}
use Rattle.theory.specs.declared.cut.Cut.{Cut}
use Rattle.theory.specs.Tree.{Forest, Policy}
use Rattle.theory.specs.Cost as theory
use Rattle.theory.specs.Pools.{Holds}
use Rattle.theory.specs.Bound.{Under}
use Rattle.theory.specs.View.{problem_of}
use Rattle.read_profile.specs.File.{Name, File, file_at}
use Rattle.read_meaning.specs.Meaning.{Plans, IsPolicy, file_policy_cost, IsBound, IsCut}
use Rattle.read_meaning.specs.Said.{Pairs, validated_node_names, validated_state_names, SameSuccessor, SameNode, forest_of}
use Rattle.read_meaning.proofs.Reading.{read_validated, read_problem_parts}
use Rattle.read_meaning.proofs.Bounds as lemmas

-- a property of a file that follows from the statements about it
follows : (P : File → Type 0) (bytes : List ℕ) (s : Validated) → problem_at bytes ≡ Ok s → ((f : File) → is_validated s ≡ true → FileSaid s.parts f → P f) → IsSomeAnd (file_at bytes) P
follows P bytes s h go = by (file_at bytes) (file-says bytes s.parts (read_problem_parts bytes s h))
  where
    by : (o : Option File) → IsSomeAnd o (FileSaid s.parts) → IsSomeAnd o P
    by None k = absurd k
    by (Some f) k = go f (read_validated bytes s h) k

module _ (bytes : List ℕ) (s : Validated) (h : problem_at bytes ≡ Ok s) where
  pub file_same : IsSomeAnd (file_at bytes) (λ f. (f.states ≡ validated_state_names s) × (f.names ≡ validated_node_names s)
      × (map f.initial f.states ≡ map Some (problem_of s).initial) × Pairs (SameSuccessor s) f.root (problem_of s).root)
  file_same = follows _ bytes s h (λ f e said. (said.states, said.names, lemmas.initial_is s e f said, lemmas.root_successors s e f said))

  pub nodes_same : IsSomeAnd (file_at bytes) (λ f. (m : ℕ) (k : Name) → slice_get f.names m ≡ Some k → IsSomeAnd (f.nodes k) (SameNode s m))
  nodes_same = follows _ bytes s h (λ f e said. lemmas.same_node s e f said)

  pub policy_same : IsSomeAnd (file_at bytes) (λ f. (units : ℕ) (ps : Plans) → IsPolicy f units ps → Policy (problem_of s) units (forest_of s (problem_of s).root ps))
  policy_same = follows _ bytes s h (λ f e said. lemmas.policy_is s e f said)

  pub cost_same : IsSomeAnd (file_at bytes) (λ f. (units : ℕ) (ps : Plans) → IsPolicy f units ps → file_policy_cost f units ps ≡ theory.policy_cost (problem_of s) units (forest_of s (problem_of s).root ps))
  cost_same = follows _ bytes s h (λ f e said. lemmas.cost_is s e f said)

  pub every_same : IsSomeAnd (file_at bytes) (λ f. (units : ℕ) (t : Forest) → Policy (problem_of s) units t → (ps : Plans) × (forest_of s (problem_of s).root ps ≡ t) × IsPolicy f units ps)
  every_same = follows _ bytes s h (λ f e said. lemmas.every_policy s e f said)

  pub bound_same : IsSomeAnd (file_at bytes) (λ f. (b : ℤ) → Under (problem_of s) b ↔ IsBound f b)
  bound_same = follows _ bytes s h (λ f e said. lemmas.same_bounds s e f said)

  pub cut_same : IsSomeAnd (file_at bytes) (λ f. (m : ℕ) (k : Name) (c : Cut) → slice_get f.names m ≡ Some k → Holds (problem_of s) m c → IsCut f k c.alpha c.beta)
  cut_same = follows _ bytes s h (λ f e said. lemmas.cut_is s e f said)

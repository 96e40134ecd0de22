-- Each node that the file names means what the node of the problem means that has its number.
use Rattle.std.proofs.Common.{◌≡◌, ℕ, ◌<◌, ℤ, true, List, [], ◌∷◌, length, All, slice_get, nat_le, Option, Some, None, IsSomeAnd, refl, sym, ap, subst, ◌∙◌}
use Rattle.std.specs.List.{list_all, IsDistinct}
use Rattle.std.specs.Option.{option_map}
use Rattle.std.specs.Str.{bytes_eq}
use Rattle.std.proofs.lemmas.List.{length-map}
use Rattle.std.proofs.lemmas.Option.{slice_get-map, slice_get_within, same_Some}
use Rattle.base_num.proofs.Tests.{and_first, and_second}
use Rattle.problem.specs.declared.parts.State as parts
use Rattle.problem.specs.declared.parts.ProblemParts.{ProblemParts}
use Rattle.problem.specs.declared.parts.Node as nodes
use Rattle.problem.specs.declared.parts.Subproblem.{Subproblem}
use Rattle.problem.specs.Distinct.{rises, is_before}
use Rattle.problem.specs.Limits.{parts_are_lawful, names_rise, scenarios_fit, state_fits, subproblem_fits, node_fits, root_fits}
use Rattle.problem.specs.Validated.{Validated, is_validated}
use Rattle.problem.proofs.ValidatedFacts.{parts-is_validated}
use Rattle.theory.specs.Problem as theory
use Rattle.theory.specs.Problem.{node_at}
use Rattle.theory.specs.Premises.{Nested}
use Rattle.theory.specs.View.{node_of, problem_of, realizations_of, successors_of}
use Rattle.theory.proofs.ValidatedParts.{Parts, PartsFit, parts_of_node, numbers_counted}
use Rattle.theory.proofs.ValidatedPremises.{shaped-validated}
use Rattle.theory.proofs.Views.{realizations-node_of, successors-node_of, stop-node_of}
use Rattle.read_profile.specs.File.{Name, Stage, FileRealization, FileSuccessor, FileNode, File}
use Rattle.read_meaning.specs.Said.{Pairs, validated_node_names, validated_state_names, own, SameSuccessor}
use Rattle.read_file.specs.Said as parts_of_node
use Rattle.read_file.specs.Said.{Together, RealizationSaid, SuccessorSaid, NodeSaid, FileSaid}
use Rattle.read_stage.specs.Said.{decision_names, StageSaid}
use Rattle.read_meaning.proofs.Names.{distinct_rising}
use Rattle.read_meaning.proofs.Sides.{lows_stand, highs_stand}
use Rattle.read_meaning.proofs.SameStages.{StageAt, stage_at}

-- ---- names

all_names_rise : (parts : ProblemParts) → parts_are_lawful parts ≡ true → names_rise parts ≡ true
unfolding parts_are_lawful
all_names_rise parts e = and_first (names_rise parts) (scenarios_fit parts) (and_first _ (nat_le (length parts.states) 50) (and_first _ (nat_le (length parts.nodes) 1000) (and_first _ (nat_le (length parts.subs) 1000) (and_first _ (list_all state_fits parts.states) (and_first _ (list_all (subproblem_fits (length parts.states)) parts.subs) (and_first _ (list_all (node_fits parts) parts.nodes) (and_first _ (root_fits parts) e)))))))

-- no two states have one name
pub states_differ : (s : Validated) → is_validated s ≡ true → IsDistinct bytes_eq (validated_state_names s)
unfolding names_rise
states_differ s e = distinct_rising (λ (q : parts.State). q.name) s.parts.states (and_first _ (rises (λ (a b : nodes.Node). is_before a.name b.name) s.parts.nodes) (all_names_rise s.parts (parts-is_validated s e)))

-- no two nodes have one name
pub nodes_differ : (s : Validated) → is_validated s ≡ true → IsDistinct bytes_eq (validated_node_names s)
unfolding names_rise
nodes_differ s e = distinct_rising (λ (n : nodes.Node). n.name) s.parts.nodes (and_second (rises (λ (a b : parts.State). is_before a.name b.name) s.parts.states) _ (all_names_rise s.parts (parts-is_validated s e)))

-- ---- successors

pub same_successors : (s : Validated) (ls : List FileSuccessor) (ms ws : List ℕ) → Together (SuccessorSaid (parts_of_node.node_names s.parts)) ls ms ws → Pairs (SameSuccessor s) ls (successors_of ms ws)
same_successors s [] [] [] t = tt
same_successors s [] [] (w ∷ ws) t = absurd t
same_successors s [] (m ∷ ms) ws t = absurd t
same_successors s (l ∷ ls) [] ws t = absurd t
same_successors s (l ∷ ls) (m ∷ ms) [] t = absurd t
same_successors s (l ∷ ls) (m ∷ ms) (w ∷ ws) t = (record { node = t.0.node; weight = t.0.weight }, same_successors s ls ms ws t.1)

-- ---- nodes

-- the node k of the file, and that of the problem with its number
pub record NodeSays (s : Validated) (f : File) (m : ℕ) (k : Name) : Type 0 where
  pub node : FileNode
  pub there : f.nodes k ≡ Some node
  pub stages : Pairs (StageAt (validated_state_names s) (own s m) (node_at (problem_of s) m) node.stage) node.realizations (node_at (problem_of s) m).realizations
  pub successors : Pairs (SameSuccessor s) node.successors (node_at (problem_of s) m).successors
  pub stop : node.stop ≡ (node_at (problem_of s) m).stop
  pub nested : All (λ (l : theory.Successor). Nested (node_at (problem_of s) m) (node_at (problem_of s) l.node)) (node_at (problem_of s) m).successors

each_stage : (names own : List Name) (n : theory.Node) (st : Stage) (rs : List FileRealization) (ws : List ℕ) (zs : List (List ℤ)) → ((r : FileRealization) (w : ℕ) (z : List ℤ) → RealizationSaid st.randoms r w z → StageAt names own n st r (record { weight = w; values = z }))
    → Together (RealizationSaid st.randoms) rs ws zs → Pairs (StageAt names own n st) rs (realizations_of ws zs)
each_stage names own n st [] [] [] at t = tt
each_stage names own n st [] [] (z ∷ zs) at t = absurd t
each_stage names own n st [] (w ∷ ws) zs at t = absurd t
each_stage names own n st (r ∷ rs) [] zs at t = absurd t
each_stage names own n st (r ∷ rs) (w ∷ ws) [] at t = absurd t
each_stage names own n st (r ∷ rs) (w ∷ ws) (z ∷ zs) at t = (at r w z t.0, each_stage names own n st rs ws zs at t.1)

own_is : (s : Validated) (m : ℕ) (n : nodes.Node) (sub : Subproblem) → slice_get s.parts.nodes m ≡ Some n → slice_get s.parts.subs n.sub ≡ Some sub → own s m ≡ decision_names sub
own_is s m n sub e f = rw (e, f) refl

some_is : {A : Type 0} (P : A → Type 0) (o : Option A) → IsSomeAnd o P → (x : A) × (o ≡ Some x) × P x
some_is P None h = absurd h
some_is P (Some x) h = (x, refl, h)

module _ (s : Validated) (e : is_validated s ≡ true) (f : File) (said : FileSaid s.parts f) where
  module _ (m : ℕ) (n : nodes.Node) (sub : Subproblem) (low high : List ℤ) (fit : PartsFit s m n sub low high) (k : FileNode) (is : NodeSaid s.parts n k) where
    stage_said : StageSaid (validated_state_names s) k.stage sub
    stage_said = subst (λ (o : Option Subproblem). IsSomeAnd o (StageSaid (validated_state_names s) k.stage)) fit.the_subproblem is.stage

    counted : (zs : List ℤ) → length zs ≡ length s.parts.states → length zs ≡ length (validated_state_names s)
    counted zs h = h ∙ sym (length-map s.parts.states (λ (q : parts.State). q.name))

    stages_say : Pairs (StageAt (validated_state_names s) (own s m) (node_at (problem_of s) m) k.stage) k.realizations (node_at (problem_of s) m).realizations
    stages_say =
        let at = each_stage (validated_state_names s) (decision_names sub) (node_of n sub low high) k.stage k.realizations n.weights n.values
        (stage_at (validated_state_names s) k.stage sub stage_said (states_differ s e) n low high (counted low (numbers_counted low (length s.parts.states) fit.lows)) (counted high (numbers_counted high (length s.parts.states) fit.highs))
        (lows_stand s e m n sub low high fit) (highs_stand s e m n sub low high fit))
        is.realizations in
        subst (λ (ks : List Name). Pairs (StageAt (validated_state_names s) ks (node_at (problem_of s) m) k.stage) k.realizations (node_at (problem_of s) m).realizations) (sym (own_is s m n sub fit.the_node fit.the_subproblem))
        (subst (λ (q : theory.Node). Pairs (StageAt (validated_state_names s) (decision_names sub) q k.stage) k.realizations q.realizations) (sym fit.is)
        (subst (λ (qs : List theory.Realization). Pairs (StageAt (validated_state_names s) (decision_names sub) (node_of n sub low high) k.stage) k.realizations qs) (sym (realizations-node_of n sub low high)) at))

    successors_say : Pairs (SameSuccessor s) k.successors (node_at (problem_of s) m).successors
    successors_say = subst (λ (q : theory.Node). Pairs (SameSuccessor s) k.successors q.successors) (sym fit.is)
        (subst (λ (qs : List theory.Successor). Pairs (SameSuccessor s) k.successors qs) (sym (successors-node_of n sub low high)) (same_successors s k.successors n.successors n.successor_weights is.successors))

    stop_says : k.stop ≡ (node_at (problem_of s) m).stop
    stop_says = subst (λ (q : theory.Node). k.stop ≡ q.stop) (sym fit.is) (is.stop ∙ sym (stop-node_of n sub low high))

  pub node_says : (m : ℕ) (k : Name) → slice_get (validated_node_names s) m ≡ Some k → NodeSays s f m k
  node_says m k h =
      let inside : m < length s.parts.nodes = subst (λ (c : ℕ). m < c) (length-map s.parts.nodes (λ (n : nodes.Node). n.name)) (slice_get_within (validated_node_names s) m k h) in
      let q : Parts s m = parts_of_node s m e inside in
      let name : q.node.name ≡ k = same_Some q.node.name k (sym (slice_get-map (λ (n : nodes.Node). n.name) s.parts.nodes m ∙ ap (option_map (λ (n : nodes.Node). n.name)) q.fit.the_node) ∙ h) in
      let is = some_is (NodeSaid s.parts q.node) (f.nodes q.node.name) (said.nodes m q.node q.fit.the_node) in
      record {
        node = is.0;
        there = ap f.nodes (sym name) ∙ is.1;
        stages = stages_say m q.node q.subproblem q.low q.high q.fit is.0 is.2;
        successors = successors_say m q.node q.subproblem q.low q.high q.fit is.0 is.2;
        stop = stop_says m q.node q.subproblem q.low q.high q.fit is.0 is.2;
        nested = (shaped-validated s m e inside).nested;
      }

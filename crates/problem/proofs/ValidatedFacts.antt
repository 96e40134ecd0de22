-- Facts about each validated problem, one by one.
use Rattle.std.proofs.Common.{◌≡◌, ℕ, ◌<◌, true, false, ◌&&◌, length, get_or, nat_le, nat_lt, ◌≤◌, Option, Some, None, slice_get, subst, sym, arith}
use Rattle.std.specs.List.{list_all}
use Rattle.std.proofs.lemmas.Bool.{leb-true}
use Rattle.std.proofs.lemmas.Bool.Decides.{nat_tests}
use Rattle.std.proofs.lemmas.Grind.{common_steps}
use Rattle.std.proofs.lemmas.List.{length-map}
use Rattle.std.proofs.lemmas.Option.{slice_get_within, get_or_from_slice_get}
use Rattle.base_num.proofs.Tests.{and_first, and_second, all_at, all_map}
use Rattle.base_graph.specs.Paths.{are_known, is_graph}
use Rattle.problem.specs.declared.parts.ProblemParts.{ProblemParts}
use Rattle.problem.specs.declared.parts.Node.{Node}
use Rattle.problem.specs.declared.parts.Subproblem.{Subproblem}
use Rattle.problem.specs.Limits.{parts_are_lawful, state_fits, subproblem_fits, root_fits, node_fits, values_fit, is_name, successors_in_order_fit, successors_fit, names_rise, scenarios_fit}
use Rattle.problem.specs.Distinct.{rises}
use Rattle.problem.specs.Validated.{Validated, is_validated, graph_fits, boxes_fit, graph_of}

pub parts-is_validated : (p : Validated) → is_validated p ≡ true → parts_are_lawful p.parts ≡ true
unfolding is_validated
parts-is_validated p e = and_first (parts_are_lawful p.parts) (graph_fits p.parts p.order p.longest) (and_first (parts_are_lawful p.parts && graph_fits p.parts p.order p.longest) (boxes_fit p.parts p.lo p.hi) e)

pub graph-is_validated : (p : Validated) → is_validated p ≡ true → graph_fits p.parts p.order p.longest ≡ true
unfolding is_validated
graph-is_validated p e = and_second (parts_are_lawful p.parts) (graph_fits p.parts p.order p.longest) (and_first (parts_are_lawful p.parts && graph_fits p.parts p.order p.longest) (boxes_fit p.parts p.lo p.hi) e)

pub boxes-is_validated : (p : Validated) → is_validated p ≡ true → boxes_fit p.parts p.lo p.hi ≡ true
unfolding is_validated
boxes-is_validated p e = and_second (parts_are_lawful p.parts && graph_fits p.parts p.order p.longest) (boxes_fit p.parts p.lo p.hi) e

-- as many lists of lower and of upper ends as there are nodes
pub box_counts : (p : Validated) → is_validated p ≡ true → (length p.lo ≡ length p.parts.nodes) × (length p.hi ≡ length p.parts.nodes)
unfolding boxes_fit
box_counts p e =
    let b : boxes_fit p.parts p.lo p.hi ≡ true = boxes-is_validated p e in
    (grind (arith, nat_tests, common_steps, b), grind (arith, nat_tests, common_steps, b))

pub nodes_fit : (parts : ProblemParts) → parts_are_lawful parts ≡ true → list_all (node_fits parts) parts.nodes ≡ true
unfolding parts_are_lawful
nodes_fit parts e = and_second _ (list_all (node_fits parts) parts.nodes) (and_first _ (root_fits parts) e)

pub subproblems_fit : (parts : ProblemParts) → parts_are_lawful parts ≡ true → list_all (subproblem_fits (length parts.states)) parts.subs ≡ true
unfolding parts_are_lawful
subproblems_fit parts e = and_second _ (list_all (subproblem_fits (length parts.states)) parts.subs) (and_first _ (list_all (node_fits parts) parts.nodes) (and_first _ (root_fits parts) e))

pub root-parts_are_lawful : (parts : ProblemParts) → parts_are_lawful parts ≡ true → root_fits parts ≡ true
unfolding parts_are_lawful
root-parts_are_lawful parts e = and_second _ (root_fits parts) e

pub states_fit : (parts : ProblemParts) → parts_are_lawful parts ≡ true → list_all state_fits parts.states ≡ true
unfolding parts_are_lawful
states_fit parts e = and_second _ (list_all state_fits parts.states) (and_first _ (list_all (subproblem_fits (length parts.states)) parts.subs) (and_first _ (list_all (node_fits parts) parts.nodes) (and_first _ (root_fits parts) e)))

-- at most 1000 nodes
pub few_nodes : (parts : ProblemParts) → parts_are_lawful parts ≡ true → length parts.nodes ≤ 1000
unfolding parts_are_lawful
few_nodes parts e =
    let few : nat_le (length parts.nodes) 1000 ≡ true = and_second _ (nat_le (length parts.nodes) 1000) (and_first _ (nat_le (length parts.subs) 1000) (and_first _ (list_all state_fits parts.states) (and_first _ (list_all (subproblem_fits (length parts.states)) parts.subs) (and_first _ (list_all (node_fits parts) parts.nodes) (and_first _ (root_fits parts) e))))) in
    leb-true (length parts.nodes) 1000 few

-- at most 50 states
pub few_states : (parts : ProblemParts) → parts_are_lawful parts ≡ true → length parts.states ≤ 50
unfolding parts_are_lawful
few_states parts e =
    let few : nat_le (length parts.states) 50 ≡ true = and_second _ (nat_le (length parts.states) 50) (and_first _ (nat_le (length parts.nodes) 1000) (and_first _ (nat_le (length parts.subs) 1000) (and_first _ (list_all state_fits parts.states) (and_first _ (list_all (subproblem_fits (length parts.states)) parts.subs) (and_first _ (list_all (node_fits parts) parts.nodes) (and_first _ (root_fits parts) e)))))) in
    leb-true (length parts.states) 50 few

pub stored_scenarios_fit : (parts : ProblemParts) → parts_are_lawful parts ≡ true → scenarios_fit parts ≡ true
unfolding parts_are_lawful
stored_scenarios_fit parts e = and_second (names_rise parts) (scenarios_fit parts) (and_first _ (nat_le (length parts.states) 50) (and_first _ (nat_le (length parts.nodes) 1000) (and_first _ (nat_le (length parts.subs) 1000) (and_first _ (list_all state_fits parts.states) (and_first _ (list_all (subproblem_fits (length parts.states)) parts.subs) (and_first _ (list_all (node_fits parts) parts.nodes) (and_first _ (root_fits parts) e)))))))

some_values : (s : Option Subproblem) (n : Node) → values_fit s n ≡ true → (t : Subproblem) × (s ≡ Some t)
some_values None n e = absurd (no e)
  where
    no : false ≡ true → ⊥
    no h = cc
some_values (Some t) n e = (t, λ i. Some t)

-- each node's subproblem is there
pub known_subproblem : (p : Validated) (m : ℕ) (n : Node) → is_validated p ≡ true → slice_get p.parts.nodes m ≡ Some n → n.sub < length p.parts.subs
known_subproblem p m n e is =
    let at : node_fits p.parts (get_or p.parts.nodes m n) ≡ true = all_at (node_fits p.parts) p.parts.nodes m n (nodes_fit p.parts (parts-is_validated p e)) (slice_get_within p.parts.nodes m n is) in
    let fits : node_fits p.parts n ≡ true = subst (λ (k : Node). node_fits p.parts k ≡ true) (get_or_from_slice_get p.parts.nodes m n n is) at in
    let values = and_second (is_name n.name) (values_fit (slice_get p.parts.subs n.sub) n) (and_first (is_name n.name && values_fit (slice_get p.parts.subs n.sub) n) (successors_in_order_fit (length p.parts.nodes) n) fits) in
    let s = some_values (slice_get p.parts.subs n.sub) n values in
    slice_get_within p.parts.subs n.sub s.0 s.1

known_successors : (parts : ProblemParts) (n : Node) → node_fits parts n ≡ true → are_known (length parts.nodes) n.successors ≡ true
known_successors parts n e =
    let successors : successors_fit (length parts.nodes) n ≡ true = and_second (rises nat_lt n.successors) (successors_fit (length parts.nodes) n) (and_second _ (successors_in_order_fit (length parts.nodes) n) e) in
    grind (arith, nat_tests, common_steps, successors)

-- each successor is a node
pub known_graph : (parts : ProblemParts) → parts_are_lawful parts ≡ true → is_graph (graph_of parts) ≡ true
known_graph parts e = rw (length-map) (all_map (λ (n : Node). n.successors) (node_fits parts) (are_known (length parts.nodes)) (known_successors parts) parts.nodes (nodes_fit parts e))

-- each successor of the root is a node
pub known_root : (parts : ProblemParts) → parts_are_lawful parts ≡ true → are_known (length (graph_of parts)) parts.root ≡ true
known_root parts e =
    let r : root_fits parts ≡ true = root-parts_are_lawful parts e in
    let known : are_known (length parts.nodes) parts.root ≡ true = grind (arith, nat_tests, common_steps, r) in
    rw length-map known

pub few_in_graph : (parts : ProblemParts) → parts_are_lawful parts ≡ true → length (graph_of parts) ≤ 1000
few_in_graph parts e = subst (λ n. n ≤ 1000) (sym (length-map parts.nodes (λ (n : Node). n.successors))) (few_nodes parts e)

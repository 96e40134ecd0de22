-- Bounds on the parts of a problem's formulas.
use Rattle.std.proofs.Common.{◌≡◌, ℕ, suc, zero, ◌+◌, ◌≤◌, List, [], ◌∷◌, true, false, length, map, sum, get_or, Option, Some, None, slice_get, nat_lt, refl, arith}
use Rattle.std.proofs.lemmas.Bool.Decides.{nat_tests}
use Rattle.std.proofs.lemmas.Grind.{common_steps}
use Rattle.std.proofs.lemmas.List.{length-map}
use Rattle.base_num.proofs.Tests.{and_first, and_second, all_get}
use Rattle.base_graph.specs.Paths.{arcs_from, numbers}
use Rattle.base_graph.specs.Ranks.{greatest, longest_from, longest_within, rank, ranks}
use Rattle.problem.specs.declared.parts.ProblemParts.{ProblemParts}
use Rattle.problem.specs.declared.parts.Node.{Node}
use Rattle.problem.specs.declared.parts.Subproblem.{Subproblem}
use Rattle.problem.specs.Distinct.{rises}
use Rattle.problem.specs.Formulas.{row_count, decision_count}
use Rattle.problem.specs.Limits.{parts_are_lawful, node_fits, values_fit, realizations_fit, subproblem_fits, is_name, successors_in_order_fit, successors_fit}
use Rattle.problem.specs.Parts.{graph_of, own_subproblem}
use Rattle.problem.specs.Validated.{Validated, is_validated, graph_fits}
use Rattle.problem.proofs.SubproblemFacts.{counts-subproblem_fits, few-counts_fit}
use Rattle.problem.proofs.ValidatedFacts.{parts-is_validated, graph-is_validated, nodes_fit, subproblems_fit, few_nodes}

greatest_at_most : {A : Type 0} (f : A → ℕ) (bound : ℕ) → ((x : A) → f x ≤ bound) → (xs : List A) → greatest (map f xs) ≤ bound
greatest_at_most f bound each [] = omega arith
greatest_at_most f bound each (x ∷ xs) =
    let here = each x in
    let tail = greatest_at_most f bound each xs in
    omega arith

-- a path of at most n steps has at most n steps
within_steps : (g : List (List ℕ)) (n m : ℕ) → longest_within g n m ≤ n
within_steps g zero m = omega arith
within_steps g (suc n) m = greatest_at_most (λ k. suc (longest_within g n k)) (suc n) (λ k. let h = within_steps g n k in omega arith) (arcs_from g m)

rank_at_most : (g : List (List ℕ)) (m : ℕ) → rank g m ≤ length g
unfolding rank
rank_at_most g m = within_steps g (length g) m

entry_at_most : (f : ℕ → ℕ) (bound : ℕ) → ((x : ℕ) → f x ≤ bound) → (xs : List ℕ) (i : ℕ) → get_or (map f xs) i 0 ≤ bound
entry_at_most f bound each [] i = omega arith
entry_at_most f bound each (x ∷ xs) zero = each x
entry_at_most f bound each (x ∷ xs) (suc i) = entry_at_most f bound each xs i

longest_from_at_most : (g : List (List ℕ)) (starts : List ℕ) → longest_from (ranks g) starts ≤ suc (length g)
longest_from_at_most g starts =
    greatest_at_most (λ m. suc (get_or (ranks g) m 0)) (suc (length g)) (λ m. let h = entry_at_most (rank g) (length g) (rank_at_most g) (numbers (length g)) m in omega arith) starts

-- the longest path of a problem has at most one node more than there are
pub longest_at_most : (p : Validated) → is_validated p ≡ true → p.longest ≤ 1001
unfolding graph_fits
longest_at_most p e =
    let graph : graph_fits p.parts p.order p.longest ≡ true = graph-is_validated p e in
    let is : p.longest ≡ longest_from (ranks (graph_of p.parts)) p.parts.root = grind (arith, nat_tests, common_steps, graph) in
    let most = longest_from_at_most (graph_of p.parts) p.parts.root in
    let count : length (graph_of p.parts) ≡ length p.parts.nodes = simp length-map in
    let nodes : length p.parts.nodes ≤ 1000 = few_nodes p.parts (parts-is_validated p e) in
    omega arith

node_fits_at : (parts : ProblemParts) (m : ℕ) (n : Node) → parts_are_lawful parts ≡ true → slice_get parts.nodes m ≡ Some n → node_fits parts n ≡ true
node_fits_at parts m n e is = all_get (node_fits parts) parts.nodes m n (nodes_fit parts e) is

-- the stop weight and the successors' weights of a node together
pub successors_at_most : (p : Validated) (m : ℕ) (n : Node) → is_validated p ≡ true → slice_get p.parts.nodes m ≡ Some n → sum n.successor_weights + n.stop ≤ 65535
successors_at_most p m n e is =
    let fits : node_fits p.parts n ≡ true = node_fits_at p.parts m n (parts-is_validated p e) is in
    grind (arith, nat_tests, common_steps, fits)

few_parts : (parts : ProblemParts) (k : ℕ) (o : Option Subproblem) → parts_are_lawful parts ≡ true → slice_get parts.subs k ≡ o → (row_count o ≤ 200) × (decision_count o ≤ 200)
few_parts parts k None e is = (omega arith, omega arith)
few_parts parts k (Some s) e is = few-counts_fit (length parts.states) s (counts-subproblem_fits (length parts.states) s (all_get (subproblem_fits (length parts.states)) parts.subs k s (subproblems_fit parts e) is))

-- at most 200 rows
pub few_rows : (parts : ProblemParts) (n : Node) → parts_are_lawful parts ≡ true → row_count (own_subproblem parts n) ≤ 200
few_rows parts n e = (few_parts parts n.sub (slice_get parts.subs n.sub) e refl).0

-- at most 200 decisions
pub few_decisions : (parts : ProblemParts) (n : Node) → parts_are_lawful parts ≡ true → decision_count (own_subproblem parts n) ≤ 200
few_decisions parts n e = (few_parts parts n.sub (slice_get parts.subs n.sub) e refl).1

-- at most as many successors as there are nodes
pub few_successors : (parts : ProblemParts) (n : Node) → parts_are_lawful parts ≡ true → node_fits parts n ≡ true → length n.successors ≤ 1000
few_successors parts n e fits =
    let successors : successors_fit (length parts.nodes) n ≡ true = and_second (rises nat_lt n.successors) (successors_fit (length parts.nodes) n) (and_second _ (successors_in_order_fit (length parts.nodes) n) fits) in
    let few = few_nodes parts e in
    let most : length n.successors ≤ length parts.nodes = grind (arith, nat_tests, successors) in
    omega (arith, few, most)

few-values_fit : (o : Option Subproblem) (n : Node) → values_fit o n ≡ true → length n.weights ≤ 100
few-values_fit None n e = absurd (no e)
  where
    no : false ≡ true → ⊥
    no h = cc
few-values_fit (Some s) n e = let fits : realizations_fit (length s.randoms) n ≡ true = e in grind (arith, nat_tests, common_steps, fits)

-- at most 100 realizations
pub few_realizations : (parts : ProblemParts) (n : Node) → node_fits parts n ≡ true → length n.weights ≤ 100
few_realizations parts n fits = few-values_fit (own_subproblem parts n) n (and_second (is_name n.name) (values_fit (own_subproblem parts n) n) (and_first _ (successors_in_order_fit (length parts.nodes) n) fits))

-- A path from the root has no more nodes than the longest one.
use Rattle.std.proofs.Common.{◌≡◌, ℕ, suc, ◌+◌, ◌<◌, ◌≤◌, ◌==◌, Bool, true, ◌&&◌, ◌||◌, not, List, [], ◌∷◌, length, get_or, Contains, Option, Some, None, arith}
use Rattle.std.specs.Prelude.{nat_lt, nat_eq, is_none}
use Rattle.std.proofs.lemmas.Bool.Decides.{nat_tests}
use Rattle.std.proofs.lemmas.Grind.{common_steps}
use Rattle.std.proofs.lemmas.List.{length-map}
use Rattle.std.proofs.lemmas.Map.Views.{Contains-from_any}
use Rattle.base_num.proofs.Tests.{and_first, and_second, is_none-true}
use Rattle.base_graph.specs.Paths.{arcs_from, is_graph, first_in_cycle}
use Rattle.base_graph.specs.Ranks.{longest_from, rank, ranks}
use Rattle.base_graph.proofs.AllRanked.{greatest_over}
use Rattle.base_graph.proofs.Falling.{rank_falls}
use Rattle.base_graph.proofs.Placing.{rank_at}
use Rattle.problem.specs.declared.parts.Node.{Node}
use Rattle.problem.specs.Parts.{successors_at}
use Rattle.problem.specs.Validated.{Validated, is_validated, graph_fits, graph_of}
use Rattle.problem.proofs.ValidatedFacts.{parts-is_validated, graph-is_validated, known_graph, few_nodes}
use Rattle.problem.proofs.Bounds.{longest_at_most}
use Rattle.cut_pool.specs.declared.entry.EntryStep.{EntryStep}
use Rattle.journal_record.specs.Shape.{is_among, leads_on, may_stand, is_path_backwards}
use Rattle.journal_record.proofs.Taken.{is_node}
use Rattle.journal_record.proofs.Again.{IsSmall}

same_number : (x y : ℕ) → nat_eq y x ≡ true → x ≡ y
same_number x y e = grind (arith, nat_tests, e)

among : (ms : List ℕ) (m : ℕ) → is_among ms m ≡ true → Contains ms m
among ms m e = Contains-from_any {eq = λ x y. nat_eq y x} same_number m ms e

-- facts about the graph of a problem
pub record Graph (p : Validated) : Type 0 where
  pub known : is_graph (graph_of p.parts) ≡ true
  pub acyclic : first_in_cycle (graph_of p.parts) ≡ None
  pub longest : p.longest ≡ longest_from (ranks (graph_of p.parts)) p.parts.root

pub graph : (p : Validated) → is_validated p ≡ true → Graph p
unfolding graph_fits
graph p e =
    let h : graph_fits p.parts p.order p.longest ≡ true = graph-is_validated p e in
    let none : is_none (first_in_cycle (graph_of p.parts)) ≡ true = grind (arith, nat_tests, common_steps, h) in
    record {
      known = known_graph p.parts (parts-is_validated p e);
      acyclic = is_none-true (first_in_cycle (graph_of p.parts)) none;
      longest = grind (arith, nat_tests, common_steps, h);
    }

-- the rank of a successor of the root is below the longest path
root_below : (p : Validated) → Graph p → (m : ℕ) → m < length p.parts.nodes → Contains p.parts.root m → suc (rank (graph_of p.parts) m) ≤ p.longest
root_below p g m known c =
    let most = greatest_over (λ k. suc (get_or (ranks (graph_of p.parts)) k 0)) p.parts.root m c in
    let counted : length (graph_of p.parts) ≡ length p.parts.nodes = length-map p.parts.nodes (λ (n : Node). n.successors) in
    let is : get_or (ranks (graph_of p.parts)) m 0 ≡ rank (graph_of p.parts) m = rank_at (graph_of p.parts) m (omega (arith, counted, known)) in
    omega (arith, most, is, g.longest)

pub in_root : (p : Validated) (before : Option ℕ) (m : ℕ) → may_stand p before true m ≡ true → Contains p.parts.root m
in_root p before m e = among p.parts.root m (and_second (nat_lt m (length p.parts.nodes) && leads_on p m before) (not true || is_among p.parts.root m) e)

pub led : (p : Validated) (k : ℕ) (last : Bool) (m : ℕ) → may_stand p (Some k) last m ≡ true → Contains (arcs_from (graph_of p.parts) m) k
led p k last m e =
    let leads : leads_on p m (Some k) ≡ true = and_second (nat_lt m (length p.parts.nodes)) (leads_on p m (Some k)) (and_first (nat_lt m (length p.parts.nodes) && leads_on p m (Some k)) (not last || is_among p.parts.root m) e) in
    among (successors_at p.parts m) k leads

-- ranks rise towards the root
rising : (p : Validated) → Graph p → (before : Option ℕ) (s : EntryStep) (ss : List EntryStep) (r : ℕ) → is_path_backwards p before (s ∷ ss) ≡ true → r ≤ rank (graph_of p.parts) s.node → r + suc (length ss) ≤ p.longest
rising p g before s [] r path low =
    let stands : may_stand p before true s.node ≡ true = and_first (may_stand p before true s.node) true path in
    omega (arith, low, root_below p g s.node (is_node p before true s.node stands) (in_root p before s.node stands))
rising p g before s (t ∷ ts) r path low =
    let later : is_path_backwards p (Some s.node) (t ∷ ts) ≡ true = and_second (may_stand p before (length (t ∷ ts) == 0) s.node) (is_path_backwards p (Some s.node) (t ∷ ts)) path in
    let stands : may_stand p (Some s.node) (length ts == 0) t.node ≡ true = and_first (may_stand p (Some s.node) (length ts == 0) t.node) (is_path_backwards p (Some t.node) ts) later in
    let falls = rank_falls (graph_of p.parts) t.node s.node g.known g.acyclic (led p s.node (length ts == 0) t.node stands) in
    omega (arith, rising p g (Some s.node) t ts (suc r) later (omega (arith, low, falls)))

-- No path has more nodes than the longest one.
pub path_length : (p : Validated) → is_validated p ≡ true → (ss : List EntryStep) → is_path_backwards p None ss ≡ true → length ss ≤ p.longest
path_length p e [] path = omega arith
path_length p e (s ∷ ss) path = let most : 0 + suc (length ss) ≤ p.longest = rising p (graph p e) None s ss 0 path (omega arith) in omega (arith, most)

pub is_small : (p : Validated) → is_validated p ≡ true → IsSmall p
is_small p e = record { nodes = omega (arith, few_nodes p.parts (parts-is_validated p e)); longest = omega (arith, longest_at_most p e) }

-- The refusal of the graph, and of the weights that a problem lists, is the one that its checks find first.
use Rattle.std.proofs.Common.{◌≡◌, ℕ, suc, ℤ, List, [], ◌∷◌, length, nat_le, codes, slice_get, Option, Some, None, Result, Ok, Err, refl, sym, ap}
use Rattle.serde_json.specs.Data.{Data, Items, Members}
use Rattle.serde_json.specs.Events.{items_len}
use Rattle.serde_json.specs.Find.{get, get_member}
use Rattle.base_graph.specs.Paths.{numbers, first_in_cycle, first_unreached}
use Rattle.problem.specs.declared.parts.Moment.{Moment}
use Rattle.problem.specs.declared.parts.Node.{Node}
use Rattle.problem.specs.declared.parts.ProblemParts.{ProblemParts}
use Rattle.problem.specs.declared.refusal.Refusal.{Refusal}
use Rattle.problem.specs.declared.refusal.RefusalKind.TheVariants as kinds
use Rattle.problem.specs.Validated.{Validated, graph_of}
use Rattle.read_json.specs.Fields.{whole, json_at, present_at}
use Rattle.read_json.specs.Limits.{items_at}
use Rattle.read_json.proofs.Accepted.{Ok-is}
use Rattle.read_file.specs.Tables.{table_at}
use Rattle.problem.specs.Arranged.{ordered, boxed, arranged, with_boxes, with_order}
use Rattle.problem.specs.Hull.{first_gap, hull}
use Rattle.policy_robust.specs.Alternatives.{at_weight, alternative_at, next_alternative_at, alternatives_at, node_lists_at, next_node_at, all_lists_at, alternatives_of}
use Rattle.run_program.specs.FirstRefusal.{of_each}
use Rattle.run_program.specs.PresentParts as there
use Rattle.run_program.specs.CheckList.{graph_checks, alternative_checks, lister_checks, list_checks}
use Rattle.run_program.proofs.FirstRefusal.{Told, one-then, one-last, made, tested, all-items, all-listed}
use Rattle.run_program.proofs.PresentFacts.{lister-is, lister_value-is, lists-is, alternative-is}

abbrev with_paths : ProblemParts → List (List Moment) → ProblemParts
with_paths g paths = record g { scenarios = paths }

gap-same : (g : ProblemParts) (paths : List (List Moment)) → first_gap g (numbers (length g.nodes)) ≡ first_gap (with_paths g paths) (numbers (length g.nodes))
unfolding hull
gap-same g paths = refl

module _ (bytes : List ℕ) (g : ProblemParts) (is : there.graph bytes ≡ Some g) (paths : List (List Moment)) where
  gap-told : first_in_cycle (graph_of g) ≡ None → first_unreached (graph_of g) g.root ≡ None → (o : Option (ℕ × ℕ)) → first_gap (with_paths g paths) (numbers (length g.nodes)) ≡ o
      → Told bytes graph_checks (arranged (with_paths g paths))
  unfolding graph_checks arranged ordered boxed
  gap-told a b None c = record { is = rw (is, a, b, gap-same g paths, c) refl }
  gap-told a b (Some at) c = record { is = rw (is, a, b, gap-same g paths, c) refl }

  reach-told : first_in_cycle (graph_of g) ≡ None → (o : Option ℕ) → first_unreached (graph_of g) g.root ≡ o → Told bytes graph_checks (arranged (with_paths g paths))
  unfolding graph_checks arranged ordered
  reach-told a None b = gap-told a b (first_gap (with_paths g paths) (numbers (length g.nodes))) refl
  reach-told a (Some m) b = record { is = rw (is, a, b) refl }

  cycle-told : (o : Option ℕ) → first_in_cycle (graph_of g) ≡ o → Told bytes graph_checks (arranged (with_paths g paths))
  unfolding graph_checks arranged ordered
  cycle-told None a = reach-told a (first_unreached (graph_of g) g.root) refl
  cycle-told (Some m) a = record { is = rw (is, a) refl }

  pub graph-told : Told bytes graph_checks (arranged (with_paths g paths))
  graph-told = cycle-told (first_in_cycle (graph_of g)) refl

boxes-parts : (parts : ProblemParts) (o : List ℕ × ℕ) (b : Result (List (List ℤ) × List (List ℤ)) Refusal) (p : Validated) → with_boxes parts o b ≡ Ok p → parts ≡ p.parts
boxes-parts parts o (Ok b) p e = ap (λ (q : Validated). q.parts) (Ok-is _ p e)
boxes-parts parts o (Err r) p e = absurd cc

order-parts : (parts : ProblemParts) (o : Result (List ℕ × ℕ) Refusal) (p : Validated) → with_order parts o ≡ Ok p → parts ≡ p.parts
order-parts parts (Ok o) p e = boxes-parts parts o (boxed parts) p e
order-parts parts (Err r) p e = absurd cc

-- the arranged problem has the parts that were read
pub arranged-parts : (parts : ProblemParts) (p : Validated) → arranged parts ≡ Ok p → parts ≡ p.parts
unfolding arranged
arranged-parts parts p e = order-parts parts (ordered parts) p e

module _ (bytes : List ℕ) (ms : Members) (g : ProblemParts) (are : there.table_there (codes "nodes") bytes ≡ Some ms) (is : there.graph bytes ≡ Some g) where
  each-told : (n : ℕ) (node : Node) (ds : Items) → there.lister n bytes ≡ Some node → there.lists n bytes ≡ Some ds
      → Told bytes (of_each (alternative_checks n) 0 (there.items_in (there.lists n bytes))) (alternatives_at n node.weights ds)
  unfolding alternative_checks next_alternative_at
  each-told n node ds by has =
      all-items bytes (alternative_checks n) (next_alternative_at n (length node.weights)) (there.lists n bytes) ds (node.weights ∷ []) has
      (λ found i d e. made bytes _ (alternative_at n (suc i) (length node.weights) d) _ (one-last bytes _ (alternative_at n (suc i) (length node.weights) d) (rw (by, alternative-is bytes n i ds d has e) refl)))

  lister-told : (found : List (List (List ℕ))) (n : ℕ) (node : Node) → slice_get g.nodes n ≡ Some node → Told bytes (lister_checks bytes n) (next_node_at ms found n node)
  unfolding lister_checks next_node_at node_lists_at
  lister-told found n node e =
      let by = lister-is bytes n g node is e in
      one-then bytes _ _ (present_at whole (get_member node.name ms)) _ (rw (by, are) refl) (λ d e1.
      let is1 = lister_value-is bytes n node ms d by are e1 in
      made bytes _ (node_lists_at n node.weights (get (codes "alternatives") d)) _ (
      one-then bytes _ _ (items_at (at_weight n 0 0) (get (codes "alternatives") d)) _ (rw is1 refl) (λ ds e2.
      let is2 = lists-is bytes n d ds is1 e2 in
      tested bytes _ _ (nat_le (items_len ds) 10) kinds.TooLarge (at_weight n 0 0) (alternatives_at n node.weights ds) (rw is2 refl) (λ few. each-told n node ds by is2))))

  pub alternatives-told : (d : Data) (p : Validated) → json_at bytes ≡ Ok d → table_at (codes "nodes") d ≡ Ok ms → g.nodes ≡ p.parts.nodes → Told bytes (list_checks bytes) (alternatives_of p bytes)
  unfolding alternatives_of list_checks
  alternatives-told d p e1 e2 same =
      rw (e1, e2, sym same, is) (made bytes _ (all_lists_at ms g.nodes) _ (all-listed bytes (lister_checks bytes) (next_node_at ms) g.nodes [] lister-told))

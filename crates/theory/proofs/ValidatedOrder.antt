-- The order of a validated problem has each node once, after its successors.
use Rattle.std.proofs.Common.{◌≡◌, ℕ, ◌<◌, true, List, [], ◌∷◌, length, All, Contains, None, sym, subst, arith}
use Rattle.std.specs.Cmp.Lexicographic.{same_text}
use Rattle.std.proofs.lemmas.Bool.Decides.{nat_tests}
use Rattle.std.proofs.lemmas.List.{length-map}
use Rattle.std.proofs.lemmas.List.Elements.{All-weaker}
use Rattle.base_num.proofs.Tests.{is_none-true}
use Rattle.base_graph.specs.Paths.{arcs_from, first_in_cycle}
use Rattle.base_graph.specs.Ranks.{ranks, by_rank}
use Rattle.base_graph.proofs.Placing.{After, after, placed}
use Rattle.problem.specs.declared.parts.Node as nodes
use Rattle.problem.specs.Validated.{Validated, is_validated, graph_of, is_order, graph_fits}
use Rattle.problem.proofs.ValidatedFacts.{parts-is_validated, graph-is_validated, known_graph}
use Rattle.theory.specs.Problem.{Successor, Problem, node_at}
use Rattle.theory.specs.View.{problem_of}
use Rattle.theory.specs.Premises.{Shaped, InOrder}
use Rattle.theory.proofs.ValidatedPremises.{shaped-validated, leads-validated}

pub no_cycle-validated : (p : Validated) → is_validated p ≡ true → first_in_cycle (graph_of p.parts) ≡ None
unfolding graph_fits
no_cycle-validated p e = let g : graph_fits p.parts p.order p.longest ≡ true = graph-is_validated p e in is_none-true (first_in_cycle (graph_of p.parts)) (grind (arith, nat_tests, g))

pub order-validated : (p : Validated) → is_validated p ≡ true → p.order ≡ by_rank (ranks (graph_of p.parts))
unfolding graph_fits
order-validated p e =
    let g : graph_fits p.parts p.order p.longest ≡ true = graph-is_validated p e in
    let order : is_order p.order (ranks (graph_of p.parts)) ≡ true = grind (arith, nat_tests, g) in
    same_text p.order (by_rank (ranks (graph_of p.parts))) (sym order)

-- the nodes ms are there, and each is not among those done before, nor twice
abbrev pub Fresh : List ℕ → List ℕ → Type 0
Fresh done [] = Unit {0}
Fresh done (m ∷ ms) = (Contains done m → ⊥) × Fresh (m ∷ done) ms

fresh-after : (g : List (List ℕ)) (done ms : List ℕ) → After g done ms → Fresh done ms
fresh-after g done [] a = tt
fresh-after g done (m ∷ ms) a = (a.1, fresh-after g (m ∷ done) ms a.3)

in_order-after : (g : List (List ℕ)) (p : Problem) (count : ℕ) (done ms : List ℕ) → length g ≡ count → ((m : ℕ) → m < count → Shaped p (node_at p m))
    → ((m : ℕ) → m < count → All (λ (l : Successor). (0 < l.weight) × Contains (arcs_from g m) l.node) (node_at p m).successors) → After g done ms → InOrder p count done ms
in_order-after g p count done [] c shaped leads a = tt
in_order-after g p count done (m ∷ ms) c shaped leads a =
    let here : m < count = subst (λ (k : ℕ). m < k) c a.0 in
    (here, shaped m here, All-weaker (λ (l : Successor). (0 < l.weight) × Contains (arcs_from g m) l.node) (λ (l : Successor). (0 < l.weight) × Contains done l.node) (λ l q. (q.0, a.2 l.node q.1)) (node_at p m).successors (leads m here), in_order-after g p count (m ∷ done) ms c shaped leads a.3)

module _ (p : Validated) (e : is_validated p ≡ true) where
  graph_count : length (graph_of p.parts) ≡ length p.parts.nodes
  graph_count = length-map p.parts.nodes (λ (n : nodes.Node). n.successors)

  after-order : After (graph_of p.parts) [] p.order
  after-order = subst (λ (ms : List ℕ). After (graph_of p.parts) [] ms) (sym (order-validated p e)) (after (graph_of p.parts) (known_graph p.parts (parts-is_validated p e)) (no_cycle-validated p e))

  -- each node comes after its successors
  pub in_order-validated : InOrder (problem_of p) (length p.parts.nodes) [] p.order
  in_order-validated = in_order-after (graph_of p.parts) (problem_of p) (length p.parts.nodes) [] p.order graph_count (λ m h. shaped-validated p m e h) (λ m h. leads-validated p m e h) after-order

  -- and once
  pub fresh-validated : Fresh [] p.order
  fresh-validated = fresh-after (graph_of p.parts) [] p.order after-order

  pub ordered-validated : (m : ℕ) → m < length p.parts.nodes → Contains p.order m
  ordered-validated m h = subst (λ (ms : List ℕ). Contains ms m) (sym (order-validated p e)) (placed (graph_of p.parts) m (known_graph p.parts (parts-is_validated p e)) (no_cycle-validated p e) (subst (λ (k : ℕ). m < k) (sym graph_count) h))

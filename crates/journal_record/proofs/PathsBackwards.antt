-- The steps of an entry go the path backwards exactly where their nodes, read backwards, are a path from the root.
use Rattle.std.proofs.Common.{◌≡◌, ℕ, suc, ◌<◌, ◌==◌, Bool, true, false, ◌&&◌, ◌||◌, not, List, [], ◌∷◌, ◌++◌, length, get_or, Contains, Option, Some, None, refl, sym, subst, append_assoc, arith}
use Rattle.std.specs.Prelude.{nat_lt, nat_eq}
use Rattle.std.proofs.Math.Logic.{⊎_elim}
use Rattle.std.proofs.lemmas.Bool.Decides.{nat_tests}
use Rattle.std.proofs.lemmas.List.{length-map}
use Rattle.base_num.proofs.Tests.{and_first, and_second, all_at, both}
use Rattle.base_graph.specs.Paths.{arcs_from}
use Rattle.base_graph.proofs.Paths.{leads_to, one_of}
use Rattle.problem.specs.declared.parts.Node.{Node}
use Rattle.problem.specs.Parts.{successors_at}
use Rattle.problem.specs.Validated.{Validated, is_validated, graph_of}
use Rattle.problem.proofs.ValidatedFacts.{parts-is_validated, known_root}
use Rattle.cut_pool.specs.declared.entry.EntryStep.{EntryStep}
use Rattle.journal_record.specs.Shape.{is_among, leads_on, may_stand, is_path_backwards}
use Rattle.journal_record.specs.Backwards.{IsSuccessorChain, IsPathFromRoot, nodes_back}
use Rattle.journal_record.proofs.LongestPath.{graph, led, in_root}

-- ---- the last two nodes of a path

goes_split : (p : Validated) (m : ℕ) (xs : List ℕ) (t s : ℕ) → IsSuccessorChain p m (xs ++ t ∷ s ∷ []) → IsSuccessorChain p m (xs ++ t ∷ []) × Contains (arcs_from (graph_of p.parts) t) s
goes_split p m [] t s h = ((h.0, tt), h.1.0)
goes_split p m (x ∷ xs) t s h = let tail = goes_split p x xs t s h.1 in ((h.0, tail.0), tail.1)

goes_join : (p : Validated) (m : ℕ) (xs : List ℕ) (t s : ℕ) → IsSuccessorChain p m (xs ++ t ∷ []) → Contains (arcs_from (graph_of p.parts) t) s → IsSuccessorChain p m (xs ++ t ∷ s ∷ [])
goes_join p m [] t s h c = (h.0, (c, tt))
goes_join p m (x ∷ xs) t s h c = (h.0, goes_join p x xs t s h.1 c)

path_split : (p : Validated) (xs : List ℕ) (t s : ℕ) → IsPathFromRoot p (xs ++ t ∷ s ∷ []) → IsPathFromRoot p (xs ++ t ∷ []) × Contains (arcs_from (graph_of p.parts) t) s
path_split p [] t s h = ((h.0, tt), h.1.0)
path_split p (x ∷ xs) t s h = let tail = goes_split p x xs t s h.1 in ((h.0, tail.0), tail.1)

path_join : (p : Validated) (xs : List ℕ) (t s : ℕ) → IsPathFromRoot p (xs ++ t ∷ []) → Contains (arcs_from (graph_of p.parts) t) s → IsPathFromRoot p (xs ++ t ∷ s ∷ [])
path_join p [] t s h c = (h.0, (c, tt))
path_join p (x ∷ xs) t s h c = (h.0, goes_join p x xs t s h.1 c)

regrouped : (ts : List EntryStep) (t s : ℕ) → (nodes_back ts ++ t ∷ []) ++ s ∷ [] ≡ nodes_back ts ++ t ∷ s ∷ []
regrouped ts t s = append_assoc (nodes_back ts) (t ∷ []) (s ∷ [])

-- ---- tests

or_first : (a b : Bool) → a ≡ true → (a || b) ≡ true
or_first true b e = refl
or_first false b e = absurd cc

or_second : (a b : Bool) → b ≡ true → (a || b) ≡ true
or_second true b e = refl
or_second false b e = e

found : (ms : List ℕ) (m : ℕ) → Contains ms m → is_among ms m ≡ true
found [] m c = absurd (omega (arith, c.1))
found (k ∷ ks) m c = ⊎_elim
    (λ (same : k ≡ m). let here : nat_eq k m ≡ true = grind (arith, nat_tests, same) in or_first (nat_eq k m) (is_among ks m) here)
    (λ later. or_second (nat_eq k m) (is_among ks m) (found ks m later)) (one_of k ks m c)

below : (m n : ℕ) → m < n → nat_lt m n ≡ true
below m n h = grind (arith, nat_tests)

stands : (p : Validated) (before : Option ℕ) (last : Bool) (m : ℕ) → m < length p.parts.nodes → leads_on p m before ≡ true → (not last || is_among p.parts.root m) ≡ true → may_stand p before last m ≡ true
stands p before last m known leads ends =
    both (nat_lt m (length p.parts.nodes) && leads_on p m before) (not last || is_among p.parts.root m)
    (both (nat_lt m (length p.parts.nodes)) (leads_on p m before) (below m (length p.parts.nodes) known) leads) ends

leads : (p : Validated) (m k : ℕ) → Contains (arcs_from (graph_of p.parts) m) k → leads_on p m (Some k) ≡ true
leads p m k c = found (successors_at p.parts m) k c

not_last : (k : ℕ) (b : Bool) → (not (suc k == 0) || b) ≡ true
not_last k b = let other : (suc k == 0) ≡ false = grind (arith, nat_tests) in rw other refl

counted : (p : Validated) → length (graph_of p.parts) ≡ length p.parts.nodes
counted p = length-map p.parts.nodes (λ (n : Node). n.successors)

root_known : (p : Validated) → is_validated p ≡ true → (m : ℕ) → Contains p.parts.root m → m < length p.parts.nodes
root_known p validated m c =
    let test : nat_lt (get_or p.parts.root c.0 m) (length (graph_of p.parts)) ≡ true = all_at (λ k. nat_lt k (length (graph_of p.parts))) p.parts.root c.0 m (known_root p.parts (parts-is_validated p validated)) c.1 in
    let at : nat_lt m (length (graph_of p.parts)) ≡ true = subst (λ (k : ℕ). nat_lt k (length (graph_of p.parts)) ≡ true) c.2 test in
    let small : m < length (graph_of p.parts) = grind (arith, nat_tests, at) in
    omega (arith, small, counted p)

successor_known : (p : Validated) → is_validated p ≡ true → (t s : ℕ) → Contains (arcs_from (graph_of p.parts) t) s → s < length p.parts.nodes
successor_known p validated t s c = omega (arith, leads_to (graph_of p.parts) t s (graph p validated).known c, counted p)

-- ---- both directions

backwards : (p : Validated) → is_validated p ≡ true → (before : Option ℕ) (s : EntryStep) (ss : List EntryStep) → leads_on p s.node before ≡ true → IsPathFromRoot p (nodes_back (s ∷ ss)) → is_path_backwards p before (s ∷ ss) ≡ true
backwards p validated before s [] leads_there path =
    both (may_stand p before true s.node) true (stands p before true s.node (root_known p validated s.node path.0) leads_there (found p.parts.root s.node path.0)) refl
backwards p validated before s (t ∷ ts) leads_there path =
    let parts = path_split p (nodes_back ts) t.node s.node (subst (IsPathFromRoot p) (regrouped ts t.node s.node) path) in
    both (may_stand p before (length (t ∷ ts) == 0) s.node) (is_path_backwards p (Some s.node) (t ∷ ts))
    (stands p before (length (t ∷ ts) == 0) s.node (successor_known p validated t.node s.node parts.1) leads_there (not_last (length ts) (is_among p.parts.root s.node)))
    (backwards p validated (Some s.node) t ts (leads p t.node s.node parts.1) parts.0)

path_of : (p : Validated) (before : Option ℕ) (s : EntryStep) (ss : List EntryStep) → is_path_backwards p before (s ∷ ss) ≡ true → IsPathFromRoot p (nodes_back (s ∷ ss))
path_of p before s [] h = (in_root p before s.node (and_first (may_stand p before true s.node) true h), tt)
path_of p before s (t ∷ ts) h =
    let later : is_path_backwards p (Some s.node) (t ∷ ts) ≡ true = and_second (may_stand p before (length (t ∷ ts) == 0) s.node) (is_path_backwards p (Some s.node) (t ∷ ts)) h in
    let first : may_stand p (Some s.node) (length ts == 0) t.node ≡ true = and_first (may_stand p (Some s.node) (length ts == 0) t.node) (is_path_backwards p (Some t.node) ts) later in
    subst (IsPathFromRoot p) (sym (regrouped ts t.node s.node)) (path_join p (nodes_back ts) t.node s.node (path_of p (Some s.node) t ts later) (led p s.node (length ts == 0) t.node first))

-- Steps whose nodes are a path from the root, read backwards, can stand in an entry.
pub backwards_from_path : (p : Validated) (ss : List EntryStep) → is_validated p ≡ true → IsPathFromRoot p (nodes_back ss) → is_path_backwards p None ss ≡ true
backwards_from_path p [] validated path = refl
backwards_from_path p (s ∷ ss) validated path = backwards p validated None s ss refl path

-- And the other way round.
pub path_from_backwards : (p : Validated) (ss : List EntryStep) → 0 < length ss → is_path_backwards p None ss ≡ true → IsPathFromRoot p (nodes_back ss)
path_from_backwards p [] some h = absurd (omega (arith, some))
path_from_backwards p (s ∷ ss) some h = path_of p None s ss h

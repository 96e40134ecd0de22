-- The lists of weights that were read: for each node its own weights, and others of the same number, small enough together.
use Rattle.std.proofs.Common.{◌≡◌, ◌==◌, ◌<◌, ◌≤◌, ℕ, zero, suc, ℤ, List, [], ◌∷◌, ◌++◌, length, map, sum, get_or, All, true, nat_le, nat_lt, codes, Option, Result, Ok, Err, IfOk, unsigned_abs, refl, sym, ap, subst, ◌∙◌, arith}
use Rattle.std.specs.List.{list_all}
use Rattle.std.proofs.lemmas.Bool.{eqb-true}
use Rattle.std.proofs.lemmas.Bool.Decides.{nat_tests}
use Rattle.std.proofs.lemmas.List.{append-nil, append_assoc, length-map}
use Rattle.std.proofs.lemmas.List.Elements.{All-nil, All-cons, All-push}
use Rattle.std.proofs.lemmas.Option.{get_or_from_slice_get}
use Rattle.serde_json.specs.Data.{Data, Items, Members}
use Rattle.serde_json.specs.Events.{items_len}
use Rattle.base_num.proofs.Tests.{all_at}
use Rattle.problem.specs.declared.parts.Node as nodes
use Rattle.problem.specs.declared.parts.Subproblem.{Subproblem}
use Rattle.problem.specs.Validated.{Validated, is_validated}
use Rattle.read_json.specs.declared.refusal.ReadRefusal.{ReadRefusal}
use Rattle.read_json.specs.Steps.{walk_list, Gives}
use Rattle.read_json.specs.Fields.{weight_at, present_at, array_at, json_at}
use Rattle.read_json.specs.Limits.{items_at}
use Rattle.read_json.proofs.Answered.{step-Ok}
use Rattle.read_json.proofs.Accepted.{then-Ok, Ok-is, test-Ok, list_all-push, weight_at-positive, walk_items-Ok}
use Rattle.read_file.specs.Tables.{table_at}
use Rattle.read_file.proofs.SuccessorsFit.{one_more, bounded_weights_at-Ok}
use Rattle.theory.specs.Problem.{Realization, Node, node_at}
use Rattle.theory.specs.View.{node_of, realizations_of, problem_of}
use Rattle.theory.proofs.ValidatedParts.{Parts, parts_of_node, weighty, weights_positive}
use Rattle.policy_robust.specs.declared.alternatives.Alternatives.{Alternatives}
use Rattle.policy_robust.specs.Alternatives.{at_weight, one_weight_at, all_weights_at, alternative_at, next_alternative_at, node_lists_at, next_node_at, all_lists_at, alternatives_of}
use Rattle.cut_make.specs.Reweighting.{Weighs}
use Rattle.policy_robust.specs.Listed.{lists_at, own_weights, Listed}

-- so many weights
record Many (count : ℕ) (ws : List ℕ) : Type 0 where
  many : length ws ≡ count
  weighty : list_all (λ w. nat_lt 0 w) ws ≡ true

one_weight-fits : (n a : ℕ) (found next : List ℕ) (r : ℕ) (d : Data) → one_weight_at n a found r d ≡ Ok next → Many r found → Many (suc r) next
unfolding one_weight_at
one_weight-fits n a found next r d e so_far =
    then-Ok (weight_at _ _) _ next e (λ weight is_weight e.
    subst (Many (suc r)) (Ok-is _ next e) (record {
      many = one_more found (unsigned_abs weight) r so_far.many;
      weighty = list_all-push (λ w. nat_lt 0 w) found (unsigned_abs weight) so_far.weighty (weight_at-positive _ d weight is_weight);
    }))

all_weights-fit : (n a : ℕ) (ds : Items) (ws : List ℕ) → all_weights_at n a ds ≡ Ok ws → Many (items_len ds) ws
all_weights-fit n a ds ws e = walk_items-Ok Many (one_weight_at n a) (λ found next r d e so_far. one_weight-fits n a found next r d e so_far) ds [] ws 0 (items_len ds) (omega arith) e (record { many = refl; weighty = refl })

-- so many weights, at most 65535 together
record Weighted (realizations : ℕ) (ws : List ℕ) : Type 0 where
  count : length ws ≡ realizations
  weighty : list_all (λ w. nat_lt 0 w) ws ≡ true
  total : sum ws ≤ 65535

alternative-fits : (n a count : ℕ) (d : Data) (ws : List ℕ) → alternative_at n a count d ≡ Ok ws → Weighted count ws
unfolding alternative_at
alternative-fits n a count d ws e =
    then-Ok (array_at _ _) _ ws e (λ ds is_items e.
    let shaped = test-Ok (items_len ds == count) _ _ _ ws e in
    then-Ok (all_weights_at n a ds) _ ws shaped.1 (λ found is_found e.
    let w = bounded_weights_at-Ok (at_weight n a 0) 0 found ws e in
    let m : Many (items_len ds) found = all_weights-fit n a ds found is_found in
    let same : items_len ds ≡ count = eqb-true (items_len ds) count shaped.0 in
    record {
      count = subst (λ (vs : List ℕ). length vs ≡ count) w.0 (m.many ∙ same);
      weighty = subst (λ (vs : List ℕ). list_all (λ w. nat_lt 0 w) vs ≡ true) w.0 m.weighty;
      total = omega (arith, w.1);
    }))

-- after the node's own weights
record Behind (own : List ℕ) (lists : List (List ℕ)) : Type 0 where
  tail : List (List ℕ)
  is : lists ≡ own ∷ tail
  fit : All (Weighted (length own)) tail

next-behind : (n : ℕ) (own : List ℕ) (found next : List (List ℕ)) (i : ℕ) (d : Data) → next_alternative_at n (length own) found i d ≡ Ok next → Behind own found → Behind own next
unfolding next_alternative_at
next-behind n own found next i d e b =
    then-Ok (alternative_at n (suc i) (length own) d) _ next e (λ ws is_ws e. record {
      tail = b.tail ++ ws ∷ [];
      is = sym (Ok-is _ next e) ∙ ap (λ (lists : List (List ℕ)). lists ++ ws ∷ []) b.is;
      fit = All-push (Weighted (length own)) b.tail ws b.fit (alternative-fits n (suc i) (length own) d ws is_ws);
    })

node-behind : (n : ℕ) (own : List ℕ) (listed : Option Data) (lists : List (List ℕ)) → node_lists_at n own listed ≡ Ok lists → Behind own lists
unfolding node_lists_at
node-behind n own listed lists e =
    then-Ok (items_at _ listed) _ lists e (λ ds is_items e.
    let few = test-Ok (nat_le (items_len ds) 10) _ _ _ lists e in
    walk_items-Ok (λ i found. Behind own found) (next_alternative_at n (length own)) (λ found next i d e b. next-behind n own found next i d e b) ds (own ∷ []) lists 0 (items_len ds) (omega arith) few.1
    (record { tail = []; is = refl; fit = All-nil (Weighted (length own)) }))

-- node by node
abbrev EachBehind : List nodes.Node → List (List (List ℕ)) → Type 0
EachBehind [] [] = Unit {0}
EachBehind [] (lists ∷ x) = ⊥
EachBehind (n ∷ ns) [] = ⊥
EachBehind (n ∷ ns) (lists ∷ x) = Behind n.weights lists × EachBehind ns x

record One (found next : List (List (List ℕ))) (n : nodes.Node) : Type 0 where
  lists : List (List ℕ)
  is : next ≡ found ++ lists ∷ []
  behind : Behind n.weights lists

next-node : (members : Members) (found next : List (List (List ℕ))) (i : ℕ) (n : nodes.Node) → next_node_at members found i n ≡ Ok next → One found next n
unfolding next_node_at
next-node members found next i n e =
    then-Ok (present_at _ _) _ next e (λ d is_d e.
    then-Ok (node_lists_at i n.weights _) _ next e (λ lists is_lists e. record { lists = lists; is = sym (Ok-is _ next e); behind = node-behind i n.weights _ lists is_lists }))

record More (found whole : List (List (List ℕ))) (ns : List nodes.Node) : Type 0 where
  tail : List (List (List ℕ))
  is : whole ≡ found ++ tail
  each : EachBehind ns tail

all-nodes : (members : Members) (ns : List nodes.Node) (found whole : List (List (List ℕ))) (i : ℕ) → walk_list (next_node_at members) found i ns ≡ Ok whole → More found whole ns
unfolding walk_list
all-nodes members [] found whole i e = record { tail = []; is = sym (Ok-is found whole e) ∙ sym (append-nil found); each = tt }
all-nodes members (n ∷ ns) found whole i e =
    let first = step-Ok (next_node_at members found i n) _ whole e in
    let one : One found first.0 n = next-node members found first.0 i n first.1 in
    let more : More first.0 whole ns = all-nodes members ns first.0 whole (suc i) first.2 in
    record {
      tail = one.lists ∷ more.tail;
      is = more.is ∙ ap (λ (f : List (List (List ℕ))). f ++ more.tail) one.is ∙ append_assoc found (one.lists ∷ []) more.tail;
      each = (one.behind, more.each);
    }

each-length : (ns : List nodes.Node) (x : List (List (List ℕ))) → EachBehind ns x → length x ≡ length ns
each-length [] [] h = refl
each-length [] (lists ∷ x) h = absurd h
each-length (n ∷ ns) [] h = absurd h
each-length (n ∷ ns) (lists ∷ x) h = ap suc (each-length ns x h.1)

each-at : (ns : List nodes.Node) (x : List (List (List ℕ))) (m : ℕ) (d : nodes.Node) → EachBehind ns x → m < length ns → Behind (get_or ns m d).weights (get_or x m [])
each-at [] x m d h lt = absurd (omega arith)
each-at (n ∷ ns) [] m d h lt = absurd h
each-at (n ∷ ns) (lists ∷ x) zero d h lt = h.0
each-at (n ∷ ns) (lists ∷ x) (suc m) d h lt = each-at ns x m d h.1 (omega arith)

-- the weights of the view are the node's
map-weights : (ws : List ℕ) (vs : List (List ℤ)) → length vs ≡ length ws → map (λ (r : Realization). r.weight) (realizations_of ws vs) ≡ ws
map-weights [] vs e = refl
map-weights (w ∷ ws) [] e = absurd (omega arith)
map-weights (w ∷ ws) (v ∷ vs) e = ap (λ (k : List ℕ). w ∷ k) (map-weights ws vs (omega arith))

own-node_of : (n : nodes.Node) (s : Subproblem) (low high : List ℤ) → length n.values ≡ length n.weights → own_weights (node_of n s low high) ≡ n.weights
unfolding node_of
own-node_of n s low high e = map-weights n.weights n.values e

positive : (w : ℕ) → nat_lt 0 w ≡ true → 1 ≤ w
positive w e = grind (arith, nat_tests)

weighs-weighted : (n : Node) (ws : List ℕ) → Weighted (length (own_weights n)) ws → Weighs n ws
weighs-weighted n ws w = record {
  count = w.count ∙ length-map n.realizations (λ (r : Realization). r.weight);
  positive = λ k d h. positive (get_or ws k d) (all_at (λ w. nat_lt 0 w) ws k d w.weighty h);
  total = w.total;
}

module _ (p : Validated) (x : List (List (List ℕ))) (validated : is_validated p ≡ true) (each : EachBehind p.parts.nodes x) (m : ℕ) (known : m < length p.parts.nodes) where
  here : Node
  here = node_at (problem_of p) m

  record Own : Type 0 where
    tail : List (List ℕ)
    is : lists_at x m ≡ own_weights here ∷ tail
    fit : All (Weighs here) (own_weights here ∷ tail)

  own : Own
  unfolding here problem_of
  own =
      let q : Parts p m = parts_of_node p m validated known in
      let w = weighty q.node (length q.subproblem.randoms) q.fit.realizations in
      let at : get_or p.parts.nodes m q.node ≡ q.node = get_or_from_slice_get p.parts.nodes m q.node q.node q.fit.the_node in
      let b : Behind q.node.weights (lists_at x m) = subst (λ (n : nodes.Node). Behind n.weights (lists_at x m)) at (each-at p.parts.nodes x m q.node each known) in
      let same : own_weights here ≡ q.node.weights = ap own_weights q.fit.is ∙ own-node_of q.node q.subproblem q.low q.high w.3 in
      let prefix : Weighted (length (own_weights here)) (own_weights here) = record { count = refl; weighty = subst (λ (ws : List ℕ). list_all (λ w. nat_lt 0 w) ws ≡ true) (sym same) (weights_positive q.node (length q.subproblem.randoms) q.fit.realizations); total = subst (λ (ws : List ℕ). sum ws ≤ 65535) (sym same) w.2 } in
      let others : All (Weighted (length (own_weights here))) b.tail = subst (λ (ws : List ℕ). All (Weighted (length ws)) b.tail) (sym same) b.fit in
      record {
        tail = b.tail;
        is = b.is ∙ ap (λ (ws : List ℕ). ws ∷ b.tail) (sym same);
        fit = All-cons (Weighs here) (own_weights here) b.tail (weighs-weighted here (own_weights here) prefix) (λ k d h. weighs-weighted here (get_or b.tail k d) (others k d h));
      }

listed-each : (p : Validated) (x : List (List (List ℕ))) → is_validated p ≡ true → EachBehind p.parts.nodes x → Listed p x
unfolding here problem_of
listed-each p x validated each = record {
  nodes = each-length p.parts.nodes x each;
  some = λ m h. let o = own p x validated each m h in subst (λ (ls : List (List ℕ)). 0 < length ls) (sym o.is) (omega arith);
  own = λ m h. let o = own p x validated each m h in ap (λ (ls : List (List ℕ)). get_or ls 0 []) o.is;
  each = λ m h. let o = own p x validated each m h in subst (λ (ls : List (List ℕ)). All (Weighs (node_at (problem_of p) m)) ls) (sym o.is) o.fit;
}

-- alternatives that were read are listed
pub listed-read : (p : Validated) (bytes : List ℕ) (x : Alternatives) → is_validated p ≡ true → alternatives_of p bytes ≡ Ok x → Listed p x.lists
unfolding alternatives_of
listed-read p bytes x validated e =
    then-Ok (json_at bytes) _ x e (λ d is_d e.
    then-Ok (table_at (codes "nodes") d) _ x e (λ members is_members e.
    then-Ok (all_lists_at members p.parts.nodes) _ x e (λ lists is_lists e.
    let more : More [] lists p.parts.nodes = all-nodes members p.parts.nodes [] lists 0 is_lists in
    let same : lists ≡ x.lists = ap (λ (a : Alternatives). a.lists) (Ok-is (record { lists = lists }) x e) in
    listed-each p x.lists validated (subst (λ (ls : List (List (List ℕ))). EachBehind p.parts.nodes ls) (sym more.is ∙ same) more.each))))

pub listed-given : (p : Validated) (bytes : List ℕ) → is_validated p ≡ true → (result : Result Alternatives ReadRefusal) → Gives (λ (x : Alternatives). x) result (alternatives_of p bytes) → IfOk result (λ x. Listed p x.lists)
listed-given p bytes validated (Ok x) h = listed-read p bytes x validated h
listed-given p bytes validated (Err e) h = tt

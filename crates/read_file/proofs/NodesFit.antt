-- The nodes that were read keep their limits.
use Rattle.std.proofs.Common.{◌≡◌, ◌+◌, ◌==◌, ◌&&◌, ℕ, suc, ℤ, List, [], ◌∷◌, ◌++◌, length, map, sum, Bool, true, false, if◌then◌else◌, nat_le, nat_lt, codes, slice_get, Option, Some, position, Ok, unsigned_abs, bytes_eq, refl, sym, ap, subst, ◌∙◌, arith}
use Rattle.std.specs.List.{list_all}
use Rattle.std.proofs.lemmas.Bool.{and_from, le-leb, eq-eqb, eqb-true}
use Rattle.std.proofs.lemmas.List.{map-append}
use Rattle.serde_json.specs.Data.{Data, Items, Members}
use Rattle.serde_json.specs.Events.{items_len, members_len}
use Rattle.base_num.proofs.Tests.{some_of}
use Rattle.problem.specs.Limits.{is_small, are_small, are_numbers, is_name, are_weights, values_fit, successors_in_order_fit}
use Rattle.problem.specs.Distinct.{rises, is_before}
use Rattle.problem.specs.declared.parts.Node.{Node}
use Rattle.problem.specs.declared.parts.Subproblem.{Subproblem}
use Rattle.problem.specs.declared.refusal.Part.{Part}
use Rattle.problem.specs.declared.refusal.Part.TheVariants as part_kinds
use Rattle.problem.specs.declared.refusal.Place.{Place}
use Rattle.read_json.specs.Fields.{place, keys_of, key_at, whole_at, weight_at, string_at, present_at, object_at}
use Rattle.read_json.specs.Limits.{known_at, members_at, items_at}
use Rattle.read_json.proofs.Accepted.{then-Ok, Ok-is, test-Ok, EachFrom-any, list_all-push, whole_at-small, weight_at-positive, key_at-name, known_at-Ok, walk_items-Ok, walk_list-Ok, walk_members-Ok, walk_members-adds}
use Rattle.read_json.proofs.Distinct.{Sorted, rises-map, rises-sorted}
use Rattle.read_json.proofs.Rising.{Rising, RisingMembers, get-rising, members_at-rising, each-rising, known-position, keys-sorted}
use Rattle.read_file.specs.declared.realizations.Realizations.{Realizations}
use Rattle.read_file.specs.declared.nodes.Transitions.{Transitions}
use Rattle.read_file.specs.declared.subproblems.SubproblemTable.{SubproblemTable}
use Rattle.read_file.specs.Values.{randoms_in, randoms_of, random_value_at, values_at}
use Rattle.read_file.specs.Realizations.{at_node, no_realizations, realization_at, certain_at, listed_at, realizations_at}
use Rattle.read_file.specs.Successors.{read_successors_at}
use Rattle.read_file.specs.Weights.{bounded_weights_at}
use Rattle.read_file.specs.Nodes.{stop_at, transitions_at, read_node_at, nodes_at}
use Rattle.read_file.proofs.SuccessorsFit.{positive, one_more, bounded_weights_at-Ok, read_successors_at-fit, read_successors_at-few, read_successors_at-rise}

-- ---- realizations

-- so many small values
record ValuesFit (count : ℕ) (zs : List ℤ) : Type 0 where
  many : length zs ≡ count
  small : are_small zs ≡ true

random_value_at-fits : (p : Place) (support : Members) (found next : List ℤ) (i : ℕ) (name : List ℕ) → random_value_at p support found name ≡ Ok next → ValuesFit i found → ValuesFit (suc i) next
unfolding random_value_at
random_value_at-fits p support found next i name e so_far =
    then-Ok (present_at _ _) _ next e (λ inner is e.
    then-Ok (whole_at _ _) _ next e (λ z is_z e.
    subst (ValuesFit (suc i)) (Ok-is _ next e) (record {
      many = one_more found z i so_far.many;
      small = list_all-push is_small found z so_far.small (whole_at-small p inner z is_z);
    })))

pub values_at-fit : (part : Part) (a b : ℕ) (randoms : List (List ℕ)) (support : Members) (zs : List ℤ) → values_at part a b randoms support ≡ Ok zs → are_numbers (length randoms) zs ≡ true
unfolding values_at
values_at-fit part a b randoms support zs e =
    let v = walk_list-Ok ValuesFit (λ i name. Unit {0}) (λ found i name. random_value_at (place part a b i) support found name) (λ found next i name any e so_far. random_value_at-fits _ support found next i name e so_far)
    randoms [] zs 0 (length randoms) (omega arith) (EachFrom-any 0 randoms) e (record { many = refl; small = refl }) in
    and_from (length zs == length randoms) (are_small zs) (eq-eqb (length zs) (length randoms) v.many) v.small

-- so many realizations of so many random variables
record ListedFit (randoms count : ℕ) (c : Realizations) : Type 0 where
  many : length c.weights ≡ count
  paired : length c.values ≡ count
  weighty : are_weights c.weights ≡ true
  values : list_all (are_numbers randoms) c.values ≡ true

realization_at-fits : (n : ℕ) (randoms : List (List ℕ)) (found next : Realizations) (r : ℕ) (d : Data) → realization_at n randoms found r d ≡ Ok next → ListedFit (length randoms) r found → ListedFit (length randoms) (suc r) next
unfolding realization_at
realization_at-fits n randoms found next r d e so_far =
    then-Ok (object_at _ _) _ next e (λ all is e.
    then-Ok (members_at _ _) _ next e (λ support is e.
    then-Ok (present_at _ _) _ next e (λ inner is e.
    then-Ok (weight_at _ _) _ next e (λ weight is_weight e.
    then-Ok (values_at _ _ _ _ _) _ next e (λ values is_values e.
    subst (ListedFit (length randoms) (suc r)) (Ok-is _ next e) (record {
      many = one_more found.weights (unsigned_abs weight) r so_far.many;
      paired = one_more found.values values r so_far.paired;
      weighty = list_all-push (λ w. nat_lt 0 w) found.weights (unsigned_abs weight) so_far.weighty (weight_at-positive _ inner weight is_weight);
      values = list_all-push (are_numbers (length randoms)) found.values values so_far.values (values_at-fit part_kinds.Support n r randoms support values is_values);
    }))))))

-- realizations of so many random variables, by their weights and values
record RealizationsFit (randoms : ℕ) (weights : List ℕ) (values : List (List ℤ)) : Type 0 where
  some : nat_lt 0 (length weights) ≡ true
  few : nat_le (length weights) 100 ≡ true
  paired : (length values == length weights) ≡ true
  weighty : are_weights weights ≡ true
  fit : list_all (are_numbers randoms) values ≡ true

certain_at-fits : (p : Place) (randoms : List (List ℕ)) (c : Realizations) → certain_at p randoms ≡ Ok c → RealizationsFit (length randoms) c.weights c.values
unfolding certain_at
certain_at-fits p randoms c e =
    let part_kinds = test-Ok (length randoms == 0) _ _ p c e in
    let none : (0 == length randoms) ≡ true = eq-eqb 0 (length randoms) (sym (eqb-true (length randoms) 0 part_kinds.0)) in
    subst (λ c. RealizationsFit (length randoms) c.weights c.values) (Ok-is _ c part_kinds.1) (record { some = refl; few = refl; paired = refl; weighty = refl; fit = rw none refl })

listed_at-fits : (n : ℕ) (randoms : List (List ℕ)) (ds : Items) (c : Realizations) → (items_len ds == 0) ≡ false → nat_le (items_len ds) 100 ≡ true → listed_at n randoms ds ≡ Ok c → RealizationsFit (length randoms) c.weights c.values
listed_at-fits n randoms ds c some few e =
    let l = walk_items-Ok (ListedFit (length randoms)) (realization_at n randoms) (λ found next r d e so_far. realization_at-fits n randoms found next r d e so_far)
    ds no_realizations c 0 (items_len ds) (omega arith) e (record { many = refl; paired = refl; weighty = refl; values = refl }) in
    record {
      some = rw l.many (positive (items_len ds) some);
      few = rw l.many few;
      paired = eq-eqb _ _ (l.paired ∙ sym l.many);
      weighty = l.weighty;
      fit = l.values;
    }

realizations_at-fit : (n : ℕ) (randoms : List (List ℕ)) (ds : Items) (c : Realizations) → realizations_at n randoms ds ≡ Ok c → RealizationsFit (length randoms) c.weights c.values
unfolding realizations_at
realizations_at-fit n randoms ds c e = let part_kinds = test-Ok (nat_le (items_len ds) 100) _ _ _ c e in by (items_len ds == 0) refl part_kinds.0 part_kinds.1
  where
    by : (b : Bool) → (items_len ds == 0) ≡ b → nat_le (items_len ds) 100 ≡ true → (if b then certain_at (at_node n) randoms else listed_at n randoms ds) ≡ Ok c → RealizationsFit (length randoms) c.weights c.values
    by true is few h = certain_at-fits (at_node n) randoms c h
    by false is few h = listed_at-fits n randoms ds c is few h

-- ---- where a path may go on

-- among so many nodes
record TransitionsFit (nodes : ℕ) (arcs weights : List ℕ) (stop : ℕ) : Type 0 where
  rising : rises nat_lt arcs ≡ true
  few : nat_le (length arcs) nodes ≡ true
  paired : (length weights == length arcs) ≡ true
  known : list_all (λ m. nat_lt m nodes) arcs ≡ true
  weighty : are_weights weights ≡ true
  total : nat_le (sum weights + stop) 65535 ≡ true

transitions_at-fit : (names : List (List ℕ)) (n : ℕ) (successors : Members) (ending : Option Data) (transitions : Transitions) → Sorted names → RisingMembers successors → transitions_at names n successors ending ≡ Ok transitions → TransitionsFit (length names) transitions.nodes transitions.weights transitions.stop
unfolding transitions_at
transitions_at-fit names n successors ending transitions sorted rising e =
    then-Ok (read_successors_at _ _ _ _) _ transitions e (λ arcs is_arcs e.
    then-Ok (stop_at _ _) _ transitions e (λ stop is e.
    then-Ok (bounded_weights_at _ _ _) _ transitions e (λ weights is_weights e.
    let l = read_successors_at-fit part_kinds.Successor n names successors arcs is_arcs in
    let few = read_successors_at-few part_kinds.Successor n names successors arcs rising is_arcs in
    let w = bounded_weights_at-Ok (at_node n) stop arcs.weights weights is_weights in
    subst (λ w. TransitionsFit (length names) w.nodes w.weights w.stop) (Ok-is _ transitions e) (record {
      rising = read_successors_at-rise part_kinds.Successor n names successors arcs sorted rising is_arcs;
      few = rw l.many (le-leb (members_len successors) (length names) few);
      paired = rw (← w.0) (eq-eqb _ _ (l.paired ∙ sym l.many));
      known = l.known;
      weighty = rw (← w.0) l.weighty;
      total = le-leb (sum weights + stop) 65535 w.1;
    }))))

-- ---- nodes

-- among these subproblems and so many nodes
abbrev pub node_among : List Subproblem → ℕ → Node → Bool
node_among subs nodes n = is_name n.name && values_fit (slice_get subs n.sub) n && successors_in_order_fit nodes n

-- so many nodes
pub record NodesFit (subs : List Subproblem) (nodes count : ℕ) (found : List Node) : Type 0 where
  pub many : length found ≡ count
  pub fit : list_all (node_among subs nodes) found ≡ true

node-fits : (subs : List Subproblem) (nodes : ℕ) (s : Subproblem) (n : Node) → is_name n.name ≡ true → slice_get subs n.sub ≡ Some s → RealizationsFit (length s.randoms) n.weights n.values → nat_le (sum n.weights) 65535 ≡ true
    → TransitionsFit nodes n.successors n.successor_weights n.stop → node_among subs nodes n ≡ true
node-fits subs nodes s n named is c total w = rw (named, is, c.some, c.few, c.paired, c.weighty, total, c.fit, w.rising, w.few, w.paired, w.known, w.weighty, w.total) refl

read_node_at-fits : (names : List (List ℕ)) (subproblems : SubproblemTable) (found next : List Node) (n : ℕ) (k : List ℕ) (d : Data) → length subproblems.names ≡ length subproblems.subs → Sorted names → Rising d → read_node_at names subproblems found n k d ≡ Ok next
    → NodesFit subproblems.subs (length names) n found → NodesFit subproblems.subs (length names) (suc n) next
unfolding read_node_at
read_node_at-fits names subproblems found next n k d paired sorted rising e so_far =
    then-Ok (key_at _ _) _ next e (λ name is_name_of e.
    then-Ok (object_at _ _) _ next e (λ all is e.
    then-Ok (present_at _ _) _ next e (λ inner is e.
    then-Ok (string_at _ _) _ next e (λ sub_name is e.
    then-Ok (items_at _ _) _ next e (λ items is e.
    then-Ok (members_at _ _) _ next e (λ successors is_successors e.
    then-Ok (known_at _ _) _ next e (λ sub is_sub e.
    then-Ok (realizations_at _ _ _) _ next e (λ realizations is_realizations e.
    then-Ok (bounded_weights_at _ _ _) _ next e (λ weights is_weights e.
    then-Ok (transitions_at _ _ _ _) _ next e (λ transitions is_transitions e.
    let place = known-position subproblems.names sub_name sub (known_at-Ok _ (position (bytes_eq sub_name) subproblems.names) sub is_sub) in
    let s = some_of subproblems.subs sub (omega (arith, place.0, paired)) in
    let randoms = ap (λ o. length (randoms_in o)) s.1 in
    let w = bounded_weights_at-Ok _ 0 realizations.weights weights is_weights in
    let c = realizations_at-fit n (randoms_of subproblems.subs sub) items realizations is_realizations in
    let in_order = members_at-rising _ _ successors (get-rising (codes "successors") d rising) is_successors in
    subst (NodesFit subproblems.subs (length names) (suc n)) (Ok-is _ next e) (record {
      many = one_more found _ n so_far.many;
      fit = list_all-push (node_among subproblems.subs (length names)) found _ so_far.fit
          (node-fits subproblems.subs (length names) s.0 _ (key_at-name _ k name is_name_of).1 s.1
          (subst (λ r. RealizationsFit r weights realizations.values) randoms (subst (λ ws. RealizationsFit (length (randoms_of subproblems.subs sub)) ws realizations.values) w.0 c))
          (le-leb (sum weights) 65535 (omega (arith, w.1)))
          (transitions_at-fit names n successors _ transitions sorted in_order is_transitions));
    })))))))))))

pub nodes_at-fit : (names : List (List ℕ)) (subproblems : SubproblemTable) (ms : Members) (nodes : List Node) → length subproblems.names ≡ length subproblems.subs → Sorted names → RisingMembers ms → nodes_at names subproblems ms ≡ Ok nodes
    → NodesFit subproblems.subs (length names) (members_len ms) nodes
unfolding nodes_at
nodes_at-fit names subproblems ms nodes paired sorted rising e =
    walk_members-Ok (NodesFit subproblems.subs (length names)) (λ k d. Rising d) (read_node_at names subproblems) (λ found next n k d rising e so_far. read_node_at-fits names subproblems found next n k d paired sorted rising e so_far)
    ms [] nodes 0 (members_len ms) (omega arith) (each-rising ms rising) e (record { many = refl; fit = refl })

read_node_at-adds : (names : List (List ℕ)) (subproblems : SubproblemTable) (found next : List Node) (n : ℕ) (k : List ℕ) (d : Data) → read_node_at names subproblems found n k d ≡ Ok next
    → map (λ (n : Node). n.name) next ≡ map (λ (n : Node). n.name) found ++ k ∷ []
unfolding read_node_at
read_node_at-adds names subproblems found next n k d e =
    then-Ok (key_at _ _) _ next e (λ name is_name_of e.
    then-Ok (object_at _ _) _ next e (λ all is e.
    then-Ok (present_at _ _) _ next e (λ inner is e.
    then-Ok (string_at _ _) _ next e (λ sub_name is e.
    then-Ok (items_at _ _) _ next e (λ items is e.
    then-Ok (members_at _ _) _ next e (λ successors is e.
    then-Ok (known_at _ _) _ next e (λ sub is e.
    then-Ok (realizations_at _ _ _) _ next e (λ realizations is e.
    then-Ok (bounded_weights_at _ _ _) _ next e (λ weights is e.
    then-Ok (transitions_at _ _ _ _) _ next e (λ transitions is e.
    let same = (key_at-name _ k name is_name_of).0 in
    ap (λ (ns : List Node). map (λ (n : Node). n.name) ns) (sym (Ok-is _ next e)) ∙ map-append (λ (n : Node). n.name) found _ ∙ ap (λ n. map (λ (n : Node). n.name) found ++ n ∷ []) (sym same)))))))))))

-- the names of the nodes are the keys
pub nodes_at-names : (names : List (List ℕ)) (subproblems : SubproblemTable) (ms : Members) (nodes : List Node) → nodes_at names subproblems ms ≡ Ok nodes → map (λ (n : Node). n.name) nodes ≡ keys_of ms
unfolding nodes_at
nodes_at-names names subproblems ms nodes e =
    walk_members-adds (λ (ns : List Node). map (λ (n : Node). n.name) ns) (read_node_at names subproblems) (λ found next n k d e. read_node_at-adds names subproblems found next n k d e) ms [] nodes 0 e

-- the nodes stand in the order of their names
pub nodes_at-rise : (names : List (List ℕ)) (subproblems : SubproblemTable) (ms : Members) (nodes : List Node) → RisingMembers ms → nodes_at names subproblems ms ≡ Ok nodes → rises (λ (a b : Node). is_before a.name b.name) nodes ≡ true
nodes_at-rise names subproblems ms nodes rising e =
    sym (rises-map (λ (n : Node). n.name) is_before nodes) ∙ ap (rises is_before) (nodes_at-names names subproblems ms nodes e) ∙ rises-sorted (keys_of ms) (keys-sorted ms rising)

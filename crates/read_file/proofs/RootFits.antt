-- The root that was read keeps its limits.
use Rattle.std.proofs.Common.{◌≡◌, ◌==◌, ℕ, suc, ℤ, List, [], ◌∷◌, ◌++◌, length, map, sum, true, false, nat_le, nat_lt, codes, Ok, refl, sym, ap, subst, ◌∙◌, arith}
use Rattle.std.specs.List.{list_all}
use Rattle.std.proofs.lemmas.Bool.{and_from, le-leb, eq-eqb}
use Rattle.std.proofs.lemmas.List.{map-append}
use Rattle.serde_json.specs.Data.{Data, null, boolean, number, string, array, object, Members}
use Rattle.serde_json.specs.Events.{members_len}
use Rattle.problem.specs.Limits.{is_small, is_name, state_fits, are_weights}
use Rattle.problem.specs.declared.parts.State.{State}
use Rattle.problem.specs.declared.refusal.Part.TheVariants as part_kinds
use Rattle.problem.specs.declared.refusal.Place.{Place}
use Rattle.problem.specs.Distinct.{rises, is_before}
use Rattle.read_json.specs.Fields.{key_at, present_at, object_at, keys_of}
use Rattle.read_json.specs.Limits.{members_at}
use Rattle.read_json.proofs.Accepted.{then-Ok, Ok-is, test-Ok, unless-Ok, list_all-push, whole_at-small, key_at-name, AllMembers-any, walk_members-Ok, walk_members-adds}
use Rattle.read_json.proofs.Distinct.{Sorted, rises-map, rises-sorted}
use Rattle.read_json.proofs.Rising.{RisingMembers, get-rising, present_at-rising, object_at-rising, members_at-rising, keys-sorted}
use Rattle.read_file.specs.declared.root.Root.{Root}
use Rattle.read_file.specs.Root.{root, initial_at, state_at, states_at, counts_at, root_at}
use Rattle.read_file.specs.Successors.{read_successors_at}
use Rattle.read_file.specs.Weights.{bounded_weights_at}
use Rattle.read_file.proofs.SuccessorsFit.{positive, one_more, bounded_weights_at-Ok, read_successors_at-fit, read_successors_at-few, read_successors_at-rise}

initial_at-small : (p : Place) (d : Data) (z : ℤ) → initial_at p d ≡ Ok z → is_small z ≡ true
unfolding initial_at
initial_at-small p null z e = whole_at-small p null z e
initial_at-small p (boolean b) z e = whole_at-small p (boolean b) z e
initial_at-small p (number n) z e = whole_at-small p (number n) z e
initial_at-small p (string s) z e = whole_at-small p (string s) z e
initial_at-small p (array ds) z e = whole_at-small p (array ds) z e
initial_at-small p (object ms) z e = then-Ok (present_at _ _) _ z e (λ inner is e. whole_at-small p inner z e)

-- so many states
record StatesFit (count : ℕ) (states : List State) : Type 0 where
  many : length states ≡ count
  fit : list_all state_fits states ≡ true

state_at-fits : (found next : List State) (i : ℕ) (k : List ℕ) (d : Data) → state_at found i k d ≡ Ok next → StatesFit i found → StatesFit (suc i) next
unfolding state_at
state_at-fits found next i k d e so_far =
    then-Ok (key_at _ _) _ next e (λ name is_name_of e.
    then-Ok (initial_at _ _) _ next e (λ initial is_initial e.
    let named = (key_at-name _ k name is_name_of).1 in
    let small = initial_at-small _ d initial is_initial in
    subst (StatesFit (suc i)) (Ok-is _ next e) (record {
      many = one_more found _ i so_far.many;
      fit = list_all-push state_fits found _ so_far.fit (and_from (is_name name) (is_small initial) named small);
    })))

states_at-fit : (ms : Members) (states : List State) → states_at ms ≡ Ok states → StatesFit (members_len ms) states
unfolding states_at
states_at-fit ms states e =
    walk_members-Ok StatesFit (λ k d. Unit {0}) state_at (λ found next i k d any e so_far. state_at-fits found next i k d e so_far)
    ms [] states 0 (members_len ms) (omega arith) (AllMembers-any ms) e (record { many = refl; fit = refl })

state_at-adds : (found next : List State) (i : ℕ) (k : List ℕ) (d : Data) → state_at found i k d ≡ Ok next → map (λ (s : State). s.name) next ≡ map (λ (s : State). s.name) found ++ k ∷ []
unfolding state_at
state_at-adds found next i k d e =
    then-Ok (key_at _ _) _ next e (λ name is_name_of e.
    then-Ok (initial_at _ _) _ next e (λ initial is e.
    let same = (key_at-name _ k name is_name_of).0 in
    ap (λ (ss : List State). map (λ (s : State). s.name) ss) (sym (Ok-is _ next e)) ∙ map-append (λ (s : State). s.name) found _ ∙ ap (λ n. map (λ (s : State). s.name) found ++ n ∷ []) (sym same)))

-- the names of the states are the keys
pub states_at-names : (ms : Members) (states : List State) → states_at ms ≡ Ok states → map (λ (s : State). s.name) states ≡ keys_of ms
unfolding states_at
states_at-names ms states e = walk_members-adds (λ (ss : List State). map (λ (s : State). s.name) ss) state_at (λ found next i k d e. state_at-adds found next i k d e) ms [] states 0 e

-- the states stand in the order of their names
states_at-rise : (ms : Members) (states : List State) → RisingMembers ms → states_at ms ≡ Ok states → rises (λ (a b : State). is_before a.name b.name) states ≡ true
states_at-rise ms states rising e =
    sym (rises-map (λ (s : State). s.name) is_before states) ∙ ap (rises is_before) (states_at-names ms states e) ∙ rises-sorted (keys_of ms) (keys-sorted ms rising)

counts_at-Ok : (p : Place) (states successors : ℕ) (x : Unit {0}) → counts_at p states successors ≡ Ok x → ((successors == 0) ≡ false) × (nat_le states 50 ≡ true)
unfolding counts_at
counts_at-Ok p states successors x e = let part_kinds = unless-Ok (successors == 0) _ _ p x e in (part_kinds.0, (test-Ok (nat_le states 50) _ _ p x part_kinds.1).0)

-- the root of a problem with so many nodes
pub record RootFits (nodes : ℕ) (start : Root) : Type 0 where
  pub few_states : nat_le (length start.states) 50 ≡ true
  pub states : list_all state_fits start.states ≡ true
  pub states_rise : rises (λ (a b : State). is_before a.name b.name) start.states ≡ true
  pub rising : rises nat_lt start.nodes ≡ true
  pub some : nat_lt 0 (length start.nodes) ≡ true
  pub few : nat_le (length start.nodes) nodes ≡ true
  pub paired : (length start.weights == length start.nodes) ≡ true
  pub known : list_all (λ m. nat_lt m nodes) start.nodes ≡ true
  pub weighty : are_weights start.weights ≡ true
  pub total : nat_le (sum start.weights) 65535 ≡ true

pub root_at-fits : (names : List (List ℕ)) (ms : Members) (start : Root) → Sorted names → RisingMembers ms → root_at names ms ≡ Ok start → RootFits (length names) start
unfolding root_at
root_at-fits names ms start sorted rising e =
    then-Ok (members_at _ _) _ start e (λ states is_states e.
    then-Ok (present_at _ _) _ start e (λ inner is_inner e.
    then-Ok (object_at _ _) _ start e (λ successors is_successors e.
    then-Ok (counts_at _ _ _) _ start e (λ counted is_counted e.
    then-Ok (states_at _) _ start e (λ found is_found e.
    then-Ok (read_successors_at _ _ _ _) _ start e (λ arcs is_arcs e.
    then-Ok (bounded_weights_at _ _ _) _ start e (λ weights is_weights e.
    let counts = counts_at-Ok root (members_len states) (members_len successors) counted is_counted in
    let in_order = object_at-rising root inner successors (present_at-rising root _ inner (get-rising (codes "successors") (object ms) rising) is_inner) is_successors in
    let s = states_at-fit states found is_found in
    let l = read_successors_at-fit part_kinds.Root 2 names successors arcs is_arcs in
    let few = read_successors_at-few part_kinds.Root 2 names successors arcs in_order is_arcs in
    let w = bounded_weights_at-Ok root 0 arcs.weights weights is_weights in
    subst (RootFits (length names)) (Ok-is _ start e) (record {
      few_states = rw s.many counts.1;
      states = s.fit;
      states_rise = states_at-rise states found (members_at-rising root _ states (get-rising (codes "state_variables") (object ms) rising) is_states) is_found;
      rising = read_successors_at-rise part_kinds.Root 2 names successors arcs sorted in_order is_arcs;
      some = rw l.many (positive (members_len successors) counts.0);
      few = rw l.many (le-leb (members_len successors) (length names) few);
      paired = rw (← w.0) (eq-eqb _ _ (l.paired ∙ sym l.many));
      known = l.known;
      weighty = rw (← w.0) l.weighty;
      total = le-leb (sum weights) 65535 (omega (arith, w.1));
    }))))))))

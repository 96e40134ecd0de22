-- The uses of a subproblem's variables: how many there are of each, and that each outgoing variable is a decision.
use Rattle.std.proofs.Common.{◌≡◌, ◌<◌, ◌+◌, ◌==◌, ℕ, zero, suc, List, [], ◌∷◌, ◌++◌, length, Bool, true, false, not, nat_le, nat_lt, slice_get, slice_set, Option, Some, None, unwrap_or, position, get_or, Ok, if◌then◌else◌, bytes_eq, map, cond, ◌||◌, refl, sym, ap, ap₂, subst, ◌∙◌, arith}
use Rattle.std.specs.List.{AllByRecursion, IsDistinct, list_all, list_any, position_or_len}
use Rattle.std.proofs.lemmas.List.{length-set, length-replicate, length-map, map-append, length_push}
use Rattle.std.proofs.lemmas.Bool.{true≢false, lt-ltb, eq-eqb, eqb-true, eqb-false, ne_eqb, or_left, or_right, and_from, cond-true}
use Rattle.std.proofs.lemmas.Option.{same_Some}
use Rattle.std.proofs.lemmas.List.Quantifiers.{position-Some}
use Rattle.serde_json.specs.Data.{Data, Items, Members, no_members, member}
use Rattle.serde_json.specs.Events.{items_len, members_len}
use Rattle.base_num.proofs.Tests.{and_second}
use Rattle.problem.specs.declared.parts.State.{State}
use Rattle.problem.specs.declared.refusal.Place.{Place}
use Rattle.problem.specs.Limits.{is_name}
use Rattle.read_json.specs.Fields.{present_at, string_at}
use Rattle.read_json.specs.Limits.{name_at, known_at}
use Rattle.read_json.proofs.Accepted.{then-Ok, Ok-is, test-Ok, unless-Ok, list_all-push, name_at-name, known_at-Ok, walk_items-Ok, walk_members-Ok, AllMembers-any}
use Rattle.read_json.proofs.Distinct.{each-push, each-weaker, each-none, distinct-push, distinct-image, bytes_eq-turned, name_of, found-name}
use Rattle.read_stage.specs.declared.role.Role.{Role}
use Rattle.read_stage.specs.declared.role.Role.TheVariants.{Free, Incoming, Outgoing, Random}
use Rattle.read_stage.specs.declared.role.Uses.{Uses}
use Rattle.read_stage.specs.declared.variables.Variables.{Variables}
use Rattle.read_stage.specs.Variables.{variable_at, names_at}
use Rattle.read_stage.specs.Roles.{is_free, taken_at, unused}
use Rattle.read_stage.specs.States.{are_keys, uses_of_state_at, each_state_at, uses_of_states_at}
use Rattle.read_stage.specs.Randoms.{random_at, each_random_at, randoms_at}
use Rattle.read_stage.specs.Decisions.{is_decision, decisions_from, decisions_at}
use Rattle.read_stage.specs.StageParts.{StageParts}
use Rattle.read_stage.specs.Subproblem.{variables_at, decision_number_of, outs_of}

-- ---- names

variable_at-names : (p : ℕ) (found next : List (List ℕ)) (i : ℕ) (d : Data) → variable_at p found i d ≡ Ok next → list_all is_name found ≡ true → list_all is_name next ≡ true
unfolding variable_at
variable_at-names p found next i d e all =
    then-Ok (present_at _ _) _ next e (λ inner is e.
    then-Ok (name_at _ _) _ next e (λ name is_name_of e.
    let parts = unless-Ok (list_any _ found) _ _ _ next e in
    subst (λ ns. list_all is_name ns ≡ true) (Ok-is _ next parts.1) (list_all-push is_name found name all (name_at-name _ inner name is_name_of))))

names_at-names : (p : ℕ) (ds : Items) (names : List (List ℕ)) → names_at p ds ≡ Ok names → list_all is_name names ≡ true
unfolding names_at
names_at-names p ds names e =
    walk_items-Ok (λ i ns. list_all is_name ns ≡ true) (variable_at p) (λ found next i d e all. variable_at-names p found next i d e all) ds [] names 0 (items_len ds) (omega arith) e refl

variable_at-differs : (p : ℕ) (found next : List (List ℕ)) (i : ℕ) (d : Data) → variable_at p found i d ≡ Ok next → IsDistinct bytes_eq found → IsDistinct bytes_eq next
unfolding variable_at
variable_at-differs p found next i d e differ =
    then-Ok (present_at _ _) _ next e (λ inner is e.
    then-Ok (name_at _ _) _ next e (λ name is e.
    let parts = unless-Ok (list_any _ found) _ _ _ next e in
    let apart = each-weaker (λ n. bytes_eq name n ≡ false) (λ n. bytes_eq n name ≡ false) found (λ n h. bytes_eq-turned name n h) (each-none (bytes_eq name) found parts.0) in
    subst (IsDistinct bytes_eq) (Ok-is _ next parts.1) (distinct-push bytes_eq found name differ apart)))

names_at-differ : (p : ℕ) (ds : Items) (names : List (List ℕ)) → names_at p ds ≡ Ok names → IsDistinct bytes_eq names
unfolding names_at IsDistinct
names_at-differ p ds names e =
    walk_items-Ok (λ i ns. IsDistinct bytes_eq ns) (variable_at p) (λ found next i d e differ. variable_at-differs p found next i d e differ) ds [] names 0 (items_len ds) (omega arith) e tt

-- ---- roles

-- the variable v has the role
abbrev pub HasRole : List Role → Role → ℕ → Type 0
HasRole roles role v = slice_get roles v ≡ Some role

-- the role of a variable stays where another one gets a role, and that one gets it
set_there : {A : Type 0} (xs : List A) (i : ℕ) (x y : A) → slice_get xs i ≡ Some y → slice_get (slice_set xs i x) i ≡ Some x
set_there [] i x y e = cc
set_there (z ∷ zs) zero x y e = refl
set_there (z ∷ zs) (suc i) x y e = set_there zs i x y e

pub free_is : (o : Option Role) → is_free o ≡ true → o ≡ Some Free
free_is None e = cc
free_is (Some Free) e = refl
free_is (Some Incoming) e = cc
free_is (Some Outgoing) e = cc
free_is (Some Random) e = cc

stays : (roles : List Role) (v w : ℕ) (role used : Role) → is_free (slice_get roles v) ≡ true → is_free (Some used) ≡ false → HasRole roles used w → HasRole (slice_set roles v role) used w
stays [] v w role used free taken has = has
stays (r ∷ rs) zero zero role used free taken has = absurd (true≢false (sym free ∙ ap is_free has ∙ taken))
stays (r ∷ rs) zero (suc w) role used free taken has = has
stays (r ∷ rs) (suc v) zero role used free taken has = has
stays (r ∷ rs) (suc v) (suc w) role used free taken has = stays rs v w role used free taken has

-- a role that was given: the list is as long, and the roles of other variables stay
record Taken (old new : List Role) (v : ℕ) (role : Role) : Type 0 where
  free : is_free (slice_get old v) ≡ true
  long : length new ≡ length old
  there : HasRole new role v
  others : (w : ℕ) (used : Role) → is_free (Some used) ≡ false → HasRole old used w → HasRole new used w

taken_at-Ok : (at : Place) (old new : List Role) (v : ℕ) (role : Role) → taken_at at old v role ≡ Ok new → Taken old new v role
unfolding taken_at
taken_at-Ok at old new v role e =
    let parts = test-Ok (is_free (slice_get old v)) _ _ at new e in
    subst (λ rs. Taken old rs v role) (Ok-is _ new parts.1) (record {
      free = parts.0;
      long = length-set old v role;
      there = set_there old v role Free (free_is (slice_get old v) parts.0);
      others = λ w used taken has. stays old v w role used parts.0 taken has;
    })

-- the variables that have the role already, and the one that is free
apart : (roles : List Role) (v : ℕ) (used : Role) (vs : List ℕ) → is_free (slice_get roles v) ≡ true → is_free (Some used) ≡ false → AllByRecursion (HasRole roles used) vs → AllByRecursion (λ w. (w == v) ≡ false) vs
apart roles v used vs free taken all =
    each-weaker (HasRole roles used) (λ w. (w == v) ≡ false) vs (λ w has. ne_eqb w v (λ same. absurd (true≢false (sym free ∙ ap is_free (subst (λ u. HasRole roles used u) same has) ∙ taken)))) all

-- variables with the role keep it
still : {old new : List Role} {v : ℕ} {role : Role} → Taken old new v role → (used : Role) (vs : List ℕ) → is_free (Some used) ≡ false → AllByRecursion (HasRole old used) vs → AllByRecursion (HasRole new used) vs
still {old} {new} taken used vs busy all = each-weaker (HasRole old used) (HasRole new used) vs (λ w has. taken.others w used busy has) all

-- ---- states

-- the variables with these names, of which so many are used by states and so many are random
record Used (names : List (List ℕ)) (states randoms : ℕ) (u : Uses) : Type 0 where
  roles : length u.roles ≡ length names
  incoming : length u.incoming ≡ states
  outgoing : length u.outgoing ≡ states
  randoms_used : length u.randoms ≡ randoms
  randoms_named : u.names ≡ map (name_of names) u.randoms
  incoming_roles : AllByRecursion (HasRole u.roles Incoming) u.incoming
  outgoing_roles : AllByRecursion (HasRole u.roles Outgoing) u.outgoing
  random_roles : AllByRecursion (HasRole u.roles Random) u.randoms
  outgoing_differ : IsDistinct (λ a b. a == b) u.outgoing
  randoms_differ : IsDistinct (λ a b. a == b) u.randoms

uses_of_state_at-used : (names : List (List ℕ)) (p states randoms : ℕ) (found next : Uses) (s : ℕ) (k : List ℕ) (d : Data) → uses_of_state_at names p found s k d ≡ Ok next → Used names states randoms found → Used names (suc states) randoms next
unfolding uses_of_state_at
uses_of_state_at-used names p states randoms found next s k d e u =
    then-Ok (present_at _ _) _ next e (λ before is e.
    then-Ok (string_at _ _) _ next e (λ first is e.
    then-Ok (present_at _ _) _ next e (λ after is e.
    then-Ok (string_at _ _) _ next e (λ second is e.
    then-Ok (known_at _ _) _ next e (λ incoming is e.
    then-Ok (known_at _ _) _ next e (λ outgoing is e.
    then-Ok (taken_at _ _ _ _) _ next e (λ once is_once e.
    then-Ok (taken_at _ _ _ _) _ next e (λ twice is_twice e.
    let a = taken_at-Ok _ found.roles once incoming Incoming is_once in
    let b = taken_at-Ok _ once twice outgoing Outgoing is_twice in
    let outgoing_once = still a Outgoing found.outgoing refl u.outgoing_roles in
    subst (Used names (suc states) randoms) (Ok-is _ next e) (record {
      roles = b.long ∙ a.long ∙ u.roles;
      incoming = omega (arith, length_push found.incoming incoming, u.incoming);
      outgoing = omega (arith, length_push found.outgoing outgoing, u.outgoing);
      randoms_used = u.randoms_used;
      randoms_named = u.randoms_named;
      incoming_roles = still b Incoming (found.incoming ++ incoming ∷ []) refl (each-push (HasRole once Incoming) found.incoming incoming (still a Incoming found.incoming refl u.incoming_roles) a.there);
      outgoing_roles = each-push (HasRole twice Outgoing) found.outgoing outgoing (still b Outgoing found.outgoing refl outgoing_once) b.there;
      random_roles = still b Random found.randoms refl (still a Random found.randoms refl u.random_roles);
      outgoing_differ = distinct-push (λ a b. a == b) found.outgoing outgoing u.outgoing_differ (apart once outgoing Outgoing found.outgoing b.free refl outgoing_once);
      randoms_differ = u.randoms_differ;
    })))))))))

unused-used : (names : List (List ℕ)) → Used names 0 0 (unused (length names))
unfolding IsDistinct
unused-used names = record {
  roles = length-replicate (length names) Free;
  incoming = refl;
  outgoing = refl;
  randoms_used = refl;
  randoms_named = refl;
  incoming_roles = tt;
  outgoing_roles = tt;
  random_roles = tt;
  outgoing_differ = tt;
  randoms_differ = tt;
}

keys_many : (states : List State) (ms : Members) → are_keys states ms ≡ true → members_len ms ≡ length states
keys_many [] no_members e = refl
keys_many [] (member k d ms) e = cc
keys_many (s ∷ ss) no_members e = cc
keys_many (s ∷ ss) (member k d ms) e = ap suc (keys_many ss ms (and_second (bytes_eq k s.name) (are_keys ss ms) e))

uses_of_states_at-used : (states : List State) (names : List (List ℕ)) (p : ℕ) (ms : Members) (next : Uses) → uses_of_states_at states names p (unused (length names)) ms ≡ Ok next → Used names (length states) 0 next
unfolding uses_of_states_at each_state_at
uses_of_states_at-used states names p ms next e =
    let parts = test-Ok (are_keys states ms) _ _ _ next e in
    walk_members-Ok (λ i u. Used names i 0 u) (λ k d. Unit {0}) (uses_of_state_at names p) (λ found next i k d any e u. uses_of_state_at-used names p i 0 found next i k d e u)
    ms (unused (length names)) next 0 (length states) (omega (arith, keys_many states ms parts.0)) (AllMembers-any ms) parts.1 (unused-used names)

-- ---- random variables

random_at-used : (names : List (List ℕ)) (p states randoms : ℕ) (found next : Uses) (i : ℕ) (d : Data) → random_at names p found i d ≡ Ok next → Used names states randoms found → Used names states (suc randoms) next
unfolding random_at
random_at-used names p states randoms found next i d e u =
    then-Ok (string_at _ _) _ next e (λ name is e.
    then-Ok (known_at _ _) _ next e (λ v is_known e.
    then-Ok (taken_at _ _ _ _) _ next e (λ roles is_roles e.
    let a = taken_at-Ok _ found.roles roles v Random is_roles in
    let named = (found-name names name v (known_at-Ok _ (position (bytes_eq name) names) v is_known)).1 in
    subst (Used names states (suc randoms)) (Ok-is _ next e) (record {
      roles = a.long ∙ u.roles;
      incoming = u.incoming;
      outgoing = u.outgoing;
      randoms_used = omega (arith, length_push found.randoms v, u.randoms_used);
      randoms_named = ap₂ (λ (ns : List (List ℕ)) (n : List ℕ). ns ++ n ∷ []) u.randoms_named (sym named) ∙ sym (map-append (name_of names) found.randoms (v ∷ []));
      incoming_roles = still a Incoming found.incoming refl u.incoming_roles;
      outgoing_roles = still a Outgoing found.outgoing refl u.outgoing_roles;
      random_roles = each-push (HasRole roles Random) found.randoms v (still a Random found.randoms refl u.random_roles) a.there;
      outgoing_differ = u.outgoing_differ;
      randoms_differ = distinct-push (λ a b. a == b) found.randoms v u.randoms_differ (apart found.roles v Random found.randoms a.free refl u.random_roles);
    }))))

randoms_at-used : (names : List (List ℕ)) (p states : ℕ) (found next : Uses) (ds : Items) → randoms_at names p found ds ≡ Ok next → Used names states 0 found → Used names states (items_len ds) next × (nat_le (items_len ds) 50 ≡ true)
unfolding randoms_at each_random_at
randoms_at-used names p states found next ds e u =
    let parts = test-Ok (nat_le (items_len ds) 50) _ _ _ next e in (
      walk_items-Ok (λ i u. Used names states i u) (random_at names p) (λ found next i d e u. random_at-used names p states i found next i d e u) ds found next 0 (items_len ds) (omega arith) parts.1 u,
      parts.0,
    )

-- ---- decisions

place_from_any : {A : Type 0} (test : A → Bool) (xs : List A) → list_any test xs ≡ true → position_or_len test xs < length xs
place_from_any test [] h = cc
place_from_any test (x ∷ xs) h = by (test x) h (place_from_any test xs)
  where
    by : (b : Bool) → (b || list_any test xs) ≡ true → (list_any test xs ≡ true → position_or_len test xs < length xs) → cond (not b) (1 + position_or_len test xs) 0 < suc (length xs)
    by true h tail = omega arith
    by false h tail = omega (arith, tail h)

pub decision_number_of-within : (decisions : List ℕ) (v : ℕ) → list_any (λ w. w == v) decisions ≡ true → decision_number_of decisions v < length decisions
unfolding decision_number_of
decision_number_of-within decisions v any =
    let place = position_or_len (λ w. w == v) decisions in
    let within : place < length decisions = place_from_any (λ w. w == v) decisions any in
    let found : position (λ w. w == v) decisions ≡ Some place = cond-true (nat_lt place (length decisions)) (Some place) None (lt-ltb place (length decisions) within) in
    subst (λ o. unwrap_or o (length decisions) < length decisions) (sym found) within

-- the variable is among the decisions, where the first role is that of variable k
pub outgoing_decides : (roles : List Role) (k v j : ℕ) → k + v ≡ j → HasRole roles Outgoing v → list_any (λ w. w == j) (decisions_from k roles) ≡ true
outgoing_decides [] k v j is out = cc
outgoing_decides (r ∷ rs) k zero j is out =
    subst (λ r. list_any (λ w. w == j) (decisions_from k (r ∷ rs)) ≡ true) (sym (same_Some r Outgoing out)) (or_left (k == j) (list_any (λ w. w == j) (decisions_from (k + 1) rs)) (eq-eqb k j (omega arith)))
outgoing_decides (r ∷ rs) k (suc v) j is out = by (is_decision r) (outgoing_decides rs (k + 1) v j (omega arith) out)
  where
    more : List ℕ
    more = decisions_from (k + 1) rs

    by : (b : Bool) → list_any (λ w. w == j) more ≡ true → list_any (λ w. w == j) (if b then k ∷ more else more) ≡ true
    by true h = or_right (k == j) (list_any (λ w. w == j) more) h
    by false h = h

outs_of-within : (roles : List Role) (outgoing : List ℕ) → AllByRecursion (HasRole roles Outgoing) outgoing → list_all (λ o. nat_lt o (length (decisions_from 0 roles))) (outs_of (decisions_from 0 roles) outgoing) ≡ true
unfolding outs_of
outs_of-within roles [] all = refl
outs_of-within roles (v ∷ vs) all =
    let decisions = decisions_from 0 roles in
    let within = decision_number_of-within decisions v (outgoing_decides roles 0 v v (omega arith) all.0) in
    and_from (nat_lt (decision_number_of decisions v) (length decisions)) (list_all (λ o. nat_lt o (length decisions)) (map (decision_number_of decisions) vs)) (lt-ltb (decision_number_of decisions v) (length decisions) within) (outs_of-within roles vs all.1)

-- the decision that has the number of the variable is the variable
pub decision_number_of-back : (decisions : List ℕ) (v : ℕ) → list_any (λ w. w == v) decisions ≡ true → get_or decisions (decision_number_of decisions v) 0 ≡ v
unfolding decision_number_of
decision_number_of-back decisions v any =
    let place = position_or_len (λ w. w == v) decisions in
    let within : place < length decisions = place_from_any (λ w. w == v) decisions any in
    let found : position (λ w. w == v) decisions ≡ Some place = cond-true (nat_lt place (length decisions)) (Some place) None (lt-ltb place (length decisions) within) in
    let same = (position-Some (λ w. w == v) decisions place 0 found).1 in
    subst (λ o. get_or decisions (unwrap_or o (length decisions)) 0 ≡ v) (sym found) (eqb-true (get_or decisions place 0) v same)

-- different variables are different decisions
outs_of-differ : (roles : List Role) (outgoing : List ℕ) → AllByRecursion (HasRole roles Outgoing) outgoing → IsDistinct (λ a b. a == b) outgoing → IsDistinct (λ a b. a == b) (outs_of (decisions_from 0 roles) outgoing)
unfolding outs_of
outs_of-differ roles outgoing all differ =
    let decisions = decisions_from 0 roles in
    let back : (v : ℕ) → HasRole roles Outgoing v → get_or decisions (decision_number_of decisions v) 0 ≡ v = λ v out. decision_number_of-back decisions v (outgoing_decides roles 0 v v (omega arith) out) in
    distinct-image (λ a b. a == b) (λ a b. a == b) (decision_number_of decisions) (HasRole roles Outgoing)
    (λ v w one other apart. ne_eqb (decision_number_of decisions v) (decision_number_of decisions w) (λ same. eqb-false v w apart (sym (back v one) ∙ ap (λ n. get_or decisions n 0) same ∙ back w other)))
    outgoing all differ

decisions_at-Ok : (p : ℕ) (roles : List Role) (decisions : List ℕ) → decisions_at p roles ≡ Ok decisions → (decisions_from 0 roles ≡ decisions) × (nat_le (length (decisions_from 0 roles)) 200 ≡ true)
unfolding decisions_at
decisions_at-Ok p roles decisions e = let parts = test-Ok (nat_le (length (decisions_from 0 roles)) 200) _ _ _ decisions e in (Ok-is _ decisions parts.1, parts.0)

-- ---- variables

-- the variables of a subproblem of a problem with so many states
pub record VariablesFit (states : ℕ) (vars : Variables) : Type 0 where
  pub names : list_all is_name vars.names ≡ true
  pub names_differ : IsDistinct bytes_eq vars.names
  pub roles : length vars.uses.roles ≡ length vars.names
  pub incoming : length vars.uses.incoming ≡ states
  pub incoming_roles : AllByRecursion (HasRole vars.uses.roles Incoming) vars.uses.incoming
  pub outgoing : length vars.uses.outgoing ≡ states
  pub outgoing_roles : AllByRecursion (HasRole vars.uses.roles Outgoing) vars.uses.outgoing
  pub randoms : length vars.uses.randoms ≡ length vars.uses.names
  pub few_randoms : nat_le (length vars.uses.names) 50 ≡ true
  pub randoms_named : vars.uses.names ≡ map (name_of vars.names) vars.uses.randoms
  pub random_roles : AllByRecursion (HasRole vars.uses.roles Random) vars.uses.randoms
  pub randoms_differ : IsDistinct (λ a b. a == b) vars.uses.randoms
  pub decisions : decisions_from 0 vars.uses.roles ≡ vars.decisions
  pub few_decisions : nat_le (length vars.decisions) 200 ≡ true
  pub outs : list_all (λ o. nat_lt o (length vars.decisions)) (outs_of vars.decisions vars.uses.outgoing) ≡ true
  pub outs_differ : IsDistinct (λ a b. a == b) (outs_of vars.decisions vars.uses.outgoing)

pub variables_at-fit : (states : List State) (p : ℕ) (stage : StageParts) (vars : Variables) → variables_at states p stage ≡ Ok vars → VariablesFit (length states) vars
unfolding variables_at
variables_at-fit states p stage vars e =
    then-Ok (names_at _ _) _ vars e (λ names is_names e.
    then-Ok (uses_of_states_at _ _ _ _ _) _ vars e (λ with_states is_states e.
    then-Ok (randoms_at _ _ _ _) _ vars e (λ uses is_uses e.
    then-Ok (decisions_at _ _) _ vars e (λ decisions is_decisions e.
    let before = uses_of_states_at-used states names p stage.states with_states is_states in
    let all = randoms_at-used names p (length states) with_states uses stage.randoms is_uses before in
    let u = all.0 in
    let as_many : length uses.names ≡ length uses.randoms = ap length u.randoms_named ∙ length-map uses.randoms (name_of names) in
    let numbers = decisions_at-Ok p uses.roles decisions is_decisions in
    subst (VariablesFit (length states)) (Ok-is _ vars e) (record {
      names = names_at-names p stage.variables names is_names;
      names_differ = names_at-differ p stage.variables names is_names;
      roles = u.roles;
      incoming = u.incoming;
      incoming_roles = u.incoming_roles;
      outgoing = u.outgoing;
      outgoing_roles = u.outgoing_roles;
      randoms = sym as_many;
      few_randoms = rw (as_many ∙ u.randoms_used) all.1;
      randoms_named = u.randoms_named;
      random_roles = u.random_roles;
      randoms_differ = u.randoms_differ;
      decisions = numbers.0;
      few_decisions = rw (← numbers.0) numbers.1;
      outs = rw (← numbers.0) (outs_of-within uses.roles uses.outgoing u.outgoing_roles);
      outs_differ = rw (← numbers.0) (outs_of-differ uses.roles uses.outgoing u.outgoing_roles u.outgoing_differ);
    })))))

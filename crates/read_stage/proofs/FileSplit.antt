-- After the states and the random variables each variable is a decision, an incoming or a random variable. These lists are as the file
-- says.
use Rattle.std.proofs.Common.{◌≡◌, ℕ, zero, suc, ◌<◌, ◌≤◌, ◌+◌, ◌==◌, ◌||◌, List, [], ◌∷◌, ◌++◌, length, map, replicate, Bool, true, false, slice_get, slice_set, Option, Some, None, Ok, position, codes, bytes_eq, if◌then◌else◌, refl, sym, ap, ap₂, subst, ◌∙◌, arith}
use Rattle.std.specs.Prelude.{IsPermutation}
use Rattle.std.specs.List.{AllByRecursion, IsDistinct, list_any}
use Rattle.std.proofs.lemmas.Bool.{eqb-false, ne_eqb}
use Rattle.std.proofs.lemmas.List.{append-nil, append_assoc, map-append}
use Rattle.std.proofs.lemmas.List.Folds.{list_any-append}
use Rattle.std.proofs.lemmas.List.Sorted.{IsPermutation-refl, IsPermutation-sym, IsPermutation-trans, IsPermutation-cons, IsPermutation-append_comm, IsPermutation-append_left, IsPermutation-middle, IsPermutation-to_front, list_any-IsPermutation}
use Rattle.std.proofs.lemmas.Option.{same_Some, slice_get_within}
use Rattle.std.proofs.lemmas.Slice.Eq.{bytes_eq-Decides}
use Rattle.serde_json.specs.Data.{Data, Items, Members, no_members, member}
use Rattle.serde_json.specs.Find.{as_str}
use Rattle.base_num.proofs.Tests.{and_first, and_second}
use Rattle.problem.specs.declared.parts.State as parts
use Rattle.problem.specs.declared.refusal.Place.{Place}
use Rattle.read_json.specs.Fields.{present_at, string_at, keys_of}
use Rattle.read_json.specs.Limits.{known_at}
use Rattle.read_json.proofs.Accepted.{then-Ok, Ok-is, test-Ok, known_at-Ok}
use Rattle.read_json.proofs.Distinct.{each-weaker, none-of, name_of, found-name}
use Rattle.read_profile.specs.File.{Name, State, both, under, each, each_member, state_of}
use Rattle.read_stage.specs.declared.role.Role.{Role}
use Rattle.read_stage.specs.declared.role.Role.TheVariants.{Free, Incoming, Outgoing, Random}
use Rattle.read_stage.specs.declared.role.Uses.{Uses}
use Rattle.read_stage.specs.declared.variables.Variables.{Variables}
use Rattle.read_stage.specs.Variables.{names_at}
use Rattle.read_stage.specs.Roles.{is_free, taken_at, unused}
use Rattle.read_stage.specs.States.{are_keys, uses_of_state_at, each_state_at, uses_of_states_at}
use Rattle.read_stage.specs.Randoms.{random_at, each_random_at, randoms_at}
use Rattle.read_stage.specs.Decisions.{is_decision, decisions_from, decisions_at}
use Rattle.read_stage.specs.StageParts.{StageParts}
use Rattle.read_stage.specs.Subproblem.{variables_at}
use Rattle.read_stage.proofs.UsesFit.{HasRole, free_is, VariablesFit, variables_at-fit}
use Rattle.read_stage.proofs.NamesDiffer.{decisions_from-above}
use Rattle.read_stage.proofs.FileSays.{present-says, string-says}
use Rattle.read_stage.proofs.FileEach.{walk_items-says, walk_members-says}

-- k, k + 1 and so on, n numbers
abbrev pub places : ℕ → ℕ → List ℕ
places k zero = []
places k (suc n) = k ∷ places (k + 1) n

-- ---- a variable that gets a role

two : (a b : ℕ) (xs : List ℕ) → IsPermutation (a ∷ b ∷ xs) (b ∷ a ∷ xs)
two a b xs = IsPermutation-append_left xs (a ∷ b ∷ []) (b ∷ a ∷ []) (IsPermutation-append_comm (a ∷ []) (b ∷ []))

-- it leaves the decisions, where the first role is that of variable k
leaves : (roles : List Role) (k v : ℕ) (role : Role) → is_decision role ≡ false → slice_get roles v ≡ Some Free → IsPermutation (decisions_from k roles) ((k + v) ∷ decisions_from k (slice_set roles v role))
leaves [] k v role drops e = absurd cc
leaves (r ∷ rs) k zero role drops e =
    let none : k + 0 ≡ k = omega arith in
    rw (same_Some r Free e, drops, none) (IsPermutation-refl (k ∷ decisions_from (k + 1) rs))
leaves (r ∷ rs) k (suc v) role drops e = by (is_decision r) (leaves rs (k + 1) v role drops e)
  where
    more : k + 1 + v ≡ k + suc v
    more = omega arith

    by : (b : Bool) → IsPermutation (decisions_from (k + 1) rs) ((k + 1 + v) ∷ decisions_from (k + 1) (slice_set rs v role))
        → IsPermutation (if b then k ∷ decisions_from (k + 1) rs else decisions_from (k + 1) rs) ((k + suc v) ∷ (if b then k ∷ decisions_from (k + 1) (slice_set rs v role) else decisions_from (k + 1) (slice_set rs v role)))
    by true p = subst (λ n. IsPermutation (k ∷ decisions_from (k + 1) rs) (n ∷ k ∷ decisions_from (k + 1) (slice_set rs v role))) more
        (IsPermutation-trans _ _ _ (IsPermutation-cons k _ _ p) (two k (k + 1 + v) (decisions_from (k + 1) (slice_set rs v role))))
    by false p = subst (λ n. IsPermutation (decisions_from (k + 1) rs) (n ∷ decisions_from (k + 1) (slice_set rs v role))) more p

-- an outgoing variable stays
remains : (roles : List Role) (k v : ℕ) → slice_get roles v ≡ Some Free → decisions_from k roles ≡ decisions_from k (slice_set roles v Outgoing)
remains [] k v e = refl
remains (r ∷ rs) k zero e = rw (same_Some r Free e) refl
remains (r ∷ rs) k (suc v) e = ap (λ vs. if is_decision r then k ∷ vs else vs) (remains rs (k + 1) v e)

taken_at-is : (at : Place) (old new : List Role) (v : ℕ) (role : Role) → taken_at at old v role ≡ Ok new → (slice_get old v ≡ Some Free) × (slice_set old v role ≡ new)
unfolding taken_at
taken_at-is at old new v role e = let pieces = test-Ok (is_free (slice_get old v)) _ _ at new e in (free_is (slice_get old v) pieces.0, Ok-is _ new pieces.1)

left : (old new : List Role) (v : ℕ) (role : Role) → is_decision role ≡ false → slice_get old v ≡ Some Free → slice_set old v role ≡ new → IsPermutation (decisions_from 0 old) (v ∷ decisions_from 0 new)
left old new v role drops free is =
    let same : 0 + v ≡ v = omega arith in
    subst (λ rs. IsPermutation (decisions_from 0 old) (v ∷ decisions_from 0 rs)) is (subst (λ n. IsPermutation (decisions_from 0 old) (n ∷ decisions_from 0 (slice_set old v role))) same (leaves old 0 v role drops free))

-- ---- and joins the incoming or the random ones

joins_incoming : (all ds es vs ws : List ℕ) (v : ℕ) → IsPermutation all (ds ++ (vs ++ ws)) → IsPermutation ds (v ∷ es) → IsPermutation all (es ++ ((vs ++ v ∷ []) ++ ws))
joins_incoming all ds es vs ws v p q =
    let there : (es ++ vs) ++ (v ∷ ws) ≡ es ++ ((vs ++ v ∷ []) ++ ws) = append_assoc es vs (v ∷ ws) ∙ ap (λ (xs : List ℕ). es ++ xs) (sym (append_assoc vs (v ∷ []) ws)) in
    let last : IsPermutation (v ∷ (es ++ (vs ++ ws))) ((es ++ vs) ++ (v ∷ ws)) = subst (λ xs. IsPermutation (v ∷ xs) ((es ++ vs) ++ (v ∷ ws))) (append_assoc es vs ws) (IsPermutation-sym _ _ (IsPermutation-middle (es ++ vs) v ws)) in
    subst (IsPermutation all) there (IsPermutation-trans _ _ _ p (IsPermutation-trans _ _ _ (IsPermutation-append_left (vs ++ ws) ds (v ∷ es) q) last))

joins_random : (all ds es vs ws : List ℕ) (v : ℕ) → IsPermutation all (ds ++ (vs ++ ws)) → IsPermutation ds (v ∷ es) → IsPermutation all (es ++ (vs ++ (ws ++ v ∷ [])))
joins_random all ds es vs ws v p q =
    let there : (es ++ (vs ++ ws)) ++ (v ∷ []) ≡ es ++ (vs ++ (ws ++ v ∷ [])) = append_assoc es (vs ++ ws) (v ∷ []) ∙ ap (λ (xs : List ℕ). es ++ xs) (append_assoc vs ws (v ∷ [])) in
    let last : IsPermutation (v ∷ (es ++ (vs ++ ws))) ((es ++ (vs ++ ws)) ++ (v ∷ [])) = IsPermutation-sym _ _ (IsPermutation-to_front (es ++ (vs ++ ws)) v) in
    subst (IsPermutation all) there (IsPermutation-trans _ _ _ p (IsPermutation-trans _ _ _ (IsPermutation-append_left (vs ++ ws) ds (v ∷ es) q) last))

-- ---- the walks

-- so far the file says these states and random variables
record Said (names : List Name) (u : Uses) (ts : List State) (rs : List Name) : Type 0 where
  before : map (λ (t : State). t.before) ts ≡ map (name_of names) u.incoming
  after : map (λ (t : State). t.after) ts ≡ map (name_of names) u.outgoing
  randoms : rs ≡ u.names
  all : IsPermutation (places 0 (length names)) (decisions_from 0 u.roles ++ (u.incoming ++ u.randoms))

-- one name more
pushed : {A : Type 0} (f : A → Name) (names : List Name) (xs : List A) (x : A) (vs : List ℕ) (v : ℕ) → map f xs ≡ map (name_of names) vs → f x ≡ name_of names v → map f (xs ++ x ∷ []) ≡ map (name_of names) (vs ++ v ∷ [])
pushed f names xs x vs v e one = map-append f xs (x ∷ []) ∙ ap₂ (λ (ns : List Name) (n : Name). ns ++ n ∷ []) e one ∙ sym (map-append (name_of names) vs (v ∷ []))

state-says : (names : List Name) (p : ℕ) (found next : Uses) (s : ℕ) (k : List ℕ) (d : Data) (done : List State) → uses_of_state_at names p found s k d ≡ Ok next → Said names found done []
    → (t : State) × (state_of k d ≡ Some t) × Said names next (done ++ t ∷ []) []
unfolding uses_of_state_at
state-says names p found next s k d done e said =
    then-Ok (present_at _ _) _ next e (λ before is_before e.
    then-Ok (string_at _ _) _ next e (λ first is_first e.
    then-Ok (present_at _ _) _ next e (λ after is_after e.
    then-Ok (string_at _ _) _ next e (λ second is_second e.
    then-Ok (known_at _ _) _ next e (λ incoming is_incoming e.
    then-Ok (known_at _ _) _ next e (λ outgoing is_outgoing e.
    then-Ok (taken_at _ _ _ _) _ next e (λ once is_once e.
    then-Ok (taken_at _ _ _ _) _ next e (λ twice is_twice e.
    let one = found-name names first incoming (known_at-Ok _ (position (bytes_eq first) names) incoming is_incoming) in
    let other = found-name names second outgoing (known_at-Ok _ (position (bytes_eq second) names) outgoing is_outgoing) in
    let a = taken_at-is _ found.roles once incoming Incoming is_once in
    let b = taken_at-is _ once twice outgoing Outgoing is_twice in
    let decisions : decisions_from 0 once ≡ decisions_from 0 twice = remains once 0 outgoing b.0 ∙ ap (λ rs. decisions_from 0 rs) b.1 in
    let t : State = record { name = k; before = first; after = second } in (
      t,
      rw (present-says _ _ before is_before, string-says _ before first is_first, present-says _ _ after is_after, string-says _ after second is_second) refl,
      subst (λ u. Said names u (done ++ t ∷ []) []) (Ok-is _ next e) (record {
        before = pushed (λ (t : State). t.before) names done t found.incoming incoming said.before (sym one.1);
        after = pushed (λ (t : State). t.after) names done t found.outgoing outgoing said.after (sym other.1);
        randoms = said.randoms;
        all = subst (λ ds. IsPermutation (places 0 (length names)) (ds ++ ((found.incoming ++ incoming ∷ []) ++ found.randoms))) decisions
            (joins_incoming _ (decisions_from 0 found.roles) (decisions_from 0 once) found.incoming found.randoms incoming said.all (left found.roles once incoming Incoming refl a.0 a.1));
      }),
    )))))))))

pub all_free : (k n : ℕ) → decisions_from k (replicate n Free) ≡ places k n
all_free k zero = refl
all_free k (suc n) = ap (λ vs. k ∷ vs) (all_free (k + 1) n)

unused-said : (names : List Name) → Said names (unused (length names)) [] []
unused-said names = record {
  before = refl;
  after = refl;
  randoms = refl;
  all = subst (IsPermutation (places 0 (length names))) (sym (append-nil (decisions_from 0 (replicate (length names) Free)) ∙ all_free 0 (length names))) (IsPermutation-refl (places 0 (length names)));
}

-- the states have the names that stand as keys
said-keys : (ms : Members) (ts : List State) → each_member state_of ms ≡ Some ts → map (λ (t : State). t.name) ts ≡ keys_of ms
said-keys no_members ts e = ap (map (λ (t : State). t.name)) (sym (same_Some [] ts e))
said-keys (member k d ms) ts e = by (under (codes "in") as_str d) (under (codes "out") as_str d) (each_member state_of ms) (λ us is. said-keys ms us is) e
  where
    one : Name → Name → State
    one before after = record { name = k; before = before; after = after }

    by : (a b : Option Name) (o : Option (List State)) → ((us : List State) → o ≡ Some us → map (λ (t : State). t.name) us ≡ keys_of ms) → both ◌∷◌ (both one a b) o ≡ Some ts → map (λ (t : State). t.name) ts ≡ k ∷ keys_of ms
    by None b o tail e = cc
    by (Some a) None o tail e = cc
    by (Some a) (Some b) None tail e = cc
    by (Some a) (Some b) (Some us) tail e = ap (map (λ (t : State). t.name)) (sym (same_Some (one a b ∷ us) ts e)) ∙ ap (λ ns. k ∷ ns) (tail us refl)

keys-are : (states : List parts.State) (ms : Members) → are_keys states ms ≡ true → keys_of ms ≡ map (λ (q : parts.State). q.name) states
keys-are [] no_members e = refl
keys-are [] (member k d ms) e = cc
keys-are (s ∷ ss) no_members e = cc
keys-are (s ∷ ss) (member k d ms) e = ap₂ ◌∷◌ ((bytes_eq-Decides k s.name).0 (and_first (bytes_eq k s.name) (are_keys ss ms) e)) (keys-are ss ms (and_second (bytes_eq k s.name) (are_keys ss ms) e))

states-say : (states : List parts.State) (names : List Name) (p : ℕ) (ms : Members) (next : Uses) → uses_of_states_at states names p (unused (length names)) ms ≡ Ok next
    → (ts : List State) × (each_member state_of ms ≡ Some ts) × Said names next ts [] × (map (λ (t : State). t.name) ts ≡ map (λ (q : parts.State). q.name) states)
unfolding uses_of_states_at each_state_at
states-say states names p ms next e =
    let pieces = test-Ok (are_keys states ms) _ _ _ next e in
    let all = walk_members-says (λ u ts. Said names u ts []) (uses_of_state_at names p) state_of (λ found next i k d done e said. state-says names p found next i k d done e said) ms (unused (length names)) next 0 [] pieces.1 (unused-said names) in
    (all.0, all.1, all.2, said-keys ms all.0 all.1 ∙ keys-are states ms pieces.0)

random-says : (names : List Name) (p : ℕ) (ts : List State) (found next : Uses) (i : ℕ) (d : Data) (done : List Name) → random_at names p found i d ≡ Ok next → Said names found ts done
    → (r : Name) × (as_str d ≡ Some r) × Said names next ts (done ++ r ∷ [])
unfolding random_at
random-says names p ts found next i d done e said =
    then-Ok (string_at _ _) _ next e (λ name is_name e.
    then-Ok (known_at _ _) _ next e (λ v is_v e.
    then-Ok (taken_at _ _ _ _) _ next e (λ roles is_roles e.
    let a = taken_at-is _ found.roles roles v Random is_roles in (
      name,
      string-says _ d name is_name,
      subst (λ u. Said names u ts (done ++ name ∷ [])) (Ok-is _ next e) (record {
        before = said.before;
        after = said.after;
        randoms = ap (λ (ns : List Name). ns ++ name ∷ []) said.randoms;
        all = joins_random _ (decisions_from 0 found.roles) (decisions_from 0 roles) found.incoming found.randoms v said.all (left found.roles roles v Random refl a.0 a.1);
      }),
    ))))

randoms-say : (names : List Name) (p : ℕ) (ts : List State) (found next : Uses) (ds : Items) → randoms_at names p found ds ≡ Ok next → Said names found ts [] → (rs : List Name) × (each as_str ds ≡ Some rs) × Said names next ts rs
unfolding randoms_at each_random_at
randoms-say names p ts found next ds e said =
    let pieces = test-Ok _ _ _ _ next e in
    walk_items-says (λ u rs. Said names u ts rs) (random_at names p) as_str (λ found next i d done e said. random-says names p ts found next i d done e said) ds found next 0 [] pieces.1 said

-- ---- the three lists

-- Each variable is a decision, an incoming or a random variable, and just one of these.
pub record Split (vars : Variables) : Type 0 where
  pub long : length vars.uses.roles ≡ length vars.names
  pub decisions : vars.decisions ≡ decisions_from 0 vars.uses.roles
  pub incoming_is : AllByRecursion (λ v. slice_get vars.uses.roles v ≡ Some Incoming) vars.uses.incoming
  pub incoming_all : (v : ℕ) → slice_get vars.uses.roles v ≡ Some Incoming → list_any (λ w. w == v) vars.uses.incoming ≡ true
  pub randoms_is : AllByRecursion (λ v. slice_get vars.uses.roles v ≡ Some Random) vars.uses.randoms
  pub differ : IsDistinct bytes_eq vars.names
  pub all : IsPermutation (places 0 (length vars.names)) (vars.decisions ++ (vars.uses.incoming ++ vars.uses.randoms))

any_place : (k n v : ℕ) → k ≤ v → v < k + n → list_any (λ w. w == v) (places k n) ≡ true
any_place k zero v from to = absurd (omega arith)
any_place k (suc n) v from to = by (k == v) refl (λ h l. any_place (k + 1) n v h l)
  where
    by : (b : Bool) → (k == v) ≡ b → (k + 1 ≤ v → v < k + 1 + n → list_any (λ w. w == v) (places (k + 1) n) ≡ true) → (b || list_any (λ w. w == v) (places (k + 1) n)) ≡ true
    by true e tail = refl
    by false e tail = tail (omega (arith, eqb-false k v e)) (omega arith)

-- an incoming variable is no decision, where the first role is that of variable k
incoming-apart : (roles : List Role) (k v j : ℕ) → k + v ≡ j → HasRole roles Incoming v → AllByRecursion (λ w. (w == j) ≡ false) (decisions_from k roles)
incoming-apart [] k v j is has = tt
incoming-apart (r ∷ rs) k zero j is has =
    subst (λ r. AllByRecursion (λ w. (w == j) ≡ false) (decisions_from k (r ∷ rs))) (sym (same_Some r Incoming has))
    (each-weaker (λ w. k + 1 ≤ w) (λ w. (w == j) ≡ false) (decisions_from (k + 1) rs) (λ w h. ne_eqb w j (λ e. omega (arith, h, e, is))) (decisions_from-above (k + 1) rs))
incoming-apart (r ∷ rs) k (suc v) j is has = by (is_decision r) (incoming-apart rs (k + 1) v j (omega arith) has)
  where
    by : (b : Bool) → AllByRecursion (λ w. (w == j) ≡ false) (decisions_from (k + 1) rs) → AllByRecursion (λ w. (w == j) ≡ false) (if b then k ∷ decisions_from (k + 1) rs else decisions_from (k + 1) rs)
    by true more = (ne_eqb k j (λ e. omega (arith, is, e)), more)
    by false more = more

incoming-among : (vars : Variables) → length vars.uses.roles ≡ length vars.names → vars.decisions ≡ decisions_from 0 vars.uses.roles → AllByRecursion (HasRole vars.uses.roles Random) vars.uses.randoms
    → IsPermutation (places 0 (length vars.names)) (vars.decisions ++ (vars.uses.incoming ++ vars.uses.randoms)) → (v : ℕ) → HasRole vars.uses.roles Incoming v → list_any (λ w. w == v) vars.uses.incoming ≡ true
incoming-among vars long decisions random all v has =
    let test : ℕ → Bool = λ w. w == v in
    let any = any_place 0 (length vars.names) v (omega arith) (omega (arith, slice_get_within vars.uses.roles v Incoming has, long)) in
    let first : list_any test vars.decisions ≡ false = rw decisions (none-of test (decisions_from 0 vars.uses.roles) (incoming-apart vars.uses.roles 0 v v (omega arith) has)) in
    let last : list_any test vars.uses.randoms ≡ false = none-of test vars.uses.randoms (each-weaker (HasRole vars.uses.roles Random) (λ w. test w ≡ false) vars.uses.randoms (λ w is. ne_eqb w v (λ same. apart (sym is ∙ ap (slice_get vars.uses.roles) same ∙ has))) random) in
    middle (list_any test vars.decisions) (list_any test vars.uses.incoming) (list_any test vars.uses.randoms) first last
    (sym (list_any-append test vars.decisions (vars.uses.incoming ++ vars.uses.randoms) ∙ ap (λ b. list_any test vars.decisions || b) (list_any-append test vars.uses.incoming vars.uses.randoms)) ∙ sym (list_any-IsPermutation test _ _ all) ∙ any)
  where
    apart : Some Random ≡ Some Incoming → ⊥
    apart e = cc

    middle : (a b c : Bool) → a ≡ false → c ≡ false → (a || (b || c)) ≡ true → b ≡ true
    middle true b c e f h = cc
    middle false true c e f h = refl
    middle false false true e f h = cc
    middle false false false e f h = cc

-- a stage's states and random variables, as the file says them
pub record VariablesSaid (states : List parts.State) (stage : StageParts) (vars : Variables) : Type 0 where
  pub split : Split vars
  pub states_are : List State
  pub states_said : each_member state_of stage.states ≡ Some states_are
  pub named : map (λ (t : State). t.name) states_are ≡ map (λ (q : parts.State). q.name) states
  pub before : map (λ (t : State). t.before) states_are ≡ map (name_of vars.names) vars.uses.incoming
  pub after : map (λ (t : State). t.after) states_are ≡ map (name_of vars.names) vars.uses.outgoing
  pub outgoing_is : AllByRecursion (HasRole vars.uses.roles Outgoing) vars.uses.outgoing
  pub randoms_said : each as_str stage.randoms ≡ Some vars.uses.names
  pub randoms_named : vars.uses.names ≡ map (name_of vars.names) vars.uses.randoms

pub variables-said : (states : List parts.State) (p : ℕ) (stage : StageParts) (vars : Variables) → variables_at states p stage ≡ Ok vars → VariablesSaid states stage vars
unfolding variables_at
variables-said states p stage vars e = then-Ok (names_at _ _) _ vars e (λ names is_names tail.
    then-Ok (uses_of_states_at _ _ _ _ _) _ vars tail (λ with_states is_states tail.
    then-Ok (randoms_at _ _ _ _) _ vars tail (λ uses is_uses tail.
    then-Ok (decisions_at _ _) _ vars tail (λ decisions is_decisions tail.
    let fit : VariablesFit (length states) vars = variables_at-fit states p stage vars e in
    let first = states-say states names p stage.states with_states is_states in
    let last = randoms-say names p first.0 with_states uses stage.randoms is_uses first.2 in
    let is = Ok-is _ vars tail in
    let s : Said vars.names vars.uses first.0 last.0 = subst (λ (w : Variables). Said w.names w.uses first.0 last.0) is last.2 in
    let all = subst (λ ds. IsPermutation (places 0 (length vars.names)) (ds ++ (vars.uses.incoming ++ vars.uses.randoms))) fit.decisions s.all in
    record {
      split = record {
        long = fit.roles;
        decisions = sym fit.decisions;
        incoming_is = fit.incoming_roles;
        incoming_all = incoming-among vars fit.roles (sym fit.decisions) fit.random_roles all;
        randoms_is = fit.random_roles;
        differ = fit.names_differ;
        all = all;
      };
      states_are = first.0;
      states_said = first.1;
      named = first.3;
      before = s.before;
      after = s.after;
      outgoing_is = fit.outgoing_roles;
      randoms_said = last.1 ∙ ap Some s.randoms;
      randoms_named = fit.randoms_named;
    }))))

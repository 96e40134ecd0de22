-- The root: states with their initial values, and successors.
use Rattle.std.proofs.Common.{◌≡◌, ℕ, ℤ, List, [], ◌∷◌, ◌++◌, map, codes, Some, Ok, refl, sym, ap, subst, ◌∙◌}
use Rattle.std.proofs.lemmas.List.{map-append}
use Rattle.serde_json.specs.Data.{Data, null, boolean, number, string, array, object, Members, no_members}
use Rattle.serde_json.specs.Find.{get, get_member, as_object}
use Rattle.problem.specs.declared.parts.State.{State}
use Rattle.problem.specs.declared.refusal.Part.TheVariants as part_kinds
use Rattle.problem.specs.declared.refusal.Place.{Place}
use Rattle.read_json.specs.Fields.{keys_of, key_at, present_at, object_at}
use Rattle.read_json.specs.Limits.{members_at}
use Rattle.read_json.proofs.Accepted.{then-Ok, Ok-is}
use Rattle.read_json.proofs.Rising.{RisingMembers, get-rising, members_at-rising}
use Rattle.read_profile.specs.File.{Name, FileSuccessor, ◌>>=◌, under, or_absent, whole_number, each_member, successor_of, initial_of}
use Rattle.read_stage.proofs.FileSays.{present-says, whole_number-says, object-says, members-say}
use Rattle.read_stage.proofs.FileEach.{walk_members-says}
use Rattle.read_file.specs.declared.root.Root.{Root}
use Rattle.read_file.specs.Root.{root, initial_at, state_at, states_at, counts_at, root_at}
use Rattle.read_file.specs.Successors.{read_successors_at}
use Rattle.read_file.specs.Weights.{bounded_weights_at}
use Rattle.read_file.specs.Said.{Together, SuccessorSaid}
use Rattle.read_file.proofs.SuccessorsFit.{bounded_weights_at-Ok}
use Rattle.read_file.proofs.RootFits.{states_at-names}
use Rattle.read_file.proofs.FileFound.{alike, get-object, under-object, each-found}
use Rattle.read_file.proofs.FileSuccessors.{successors-say}

-- a whole number, or an object that holds one
initial-says : (p : Place) (d : Data) (z : ℤ) → initial_at p d ≡ Ok z → initial_of d ≡ Some z
unfolding initial_at
initial-says p null z e = whole_number-says p null z e
initial-says p (boolean b) z e = whole_number-says p (boolean b) z e
initial-says p (number n) z e = rw (whole_number-says p (number n) z e) refl
initial-says p (string s) z e = whole_number-says p (string s) z e
initial-says p (array ds) z e = whole_number-says p (array ds) z e
initial-says p (object ms) z e =
    then-Ok (present_at _ _) _ z e (λ inner is e. ap (λ o. o >>= whole_number) (present-says p (get (codes "initial_value") (object ms)) inner is) ∙ whole_number-says p inner z e)

initials : List State → List ℤ
initials qs = map (λ (q : State). q.initial) qs

state-says : (found next : List State) (i : ℕ) (k : List ℕ) (d : Data) (done : List ℤ) → state_at found i k d ≡ Ok next → initials found ≡ done → (z : ℤ) × (initial_of d ≡ Some z) × (initials next ≡ done ++ z ∷ [])
unfolding state_at initials
state-says found next i k d done e so_far =
    then-Ok (key_at _ _) _ next e (λ name is e.
    then-Ok (initial_at _ _) _ next e (λ z is_z e.
    (z, initial-says _ d z is_z, ap initials (sym (Ok-is _ next e)) ∙ map-append (λ (q : State). q.initial) found _ ∙ ap (λ zs. zs ++ z ∷ []) so_far)))

-- each state has its initial value under its name
states-say : (ms : Members) (qs : List State) → RisingMembers ms → states_at ms ≡ Ok qs → map (λ k. get_member k ms >>= initial_of) (keys_of ms) ≡ map Some (initials qs)
unfolding states_at initials
states-say ms qs rising e =
    let all = walk_members-says (λ found done. initials found ≡ done) state_at (λ k d. initial_of d) (λ found next i k d done e so_far. state-says found next i k d done e so_far) ms [] qs 0 [] e refl in
    each-found (λ k d. initial_of d) ms all.0 rising all.1 ∙ ap (map Some) (sym all.2)

-- the root by its numbers is one by its names
pub record RootSaid (names : List Name) (d : Data) (start : Root) : Type 0 where
  pub states : Members
  pub there : or_absent no_members as_object (get (codes "state_variables") d) ≡ Some states
  pub keys : keys_of states ≡ map (λ (q : State). q.name) start.states
  pub initial : map (λ k. under (codes "state_variables") (under k initial_of) d) (keys_of states) ≡ map Some (map (λ (q : State). q.initial) start.states)
  pub successors : List FileSuccessor
  pub said : (under (codes "successors") as_object d >>= each_member successor_of) ≡ Some successors
  pub together : Together (SuccessorSaid names) successors start.nodes start.weights

pub root-says : (names : List Name) (d : Data) (ms : Members) (start : Root) → as_object d ≡ Some ms → RisingMembers ms → root_at names ms ≡ Ok start → RootSaid names d start
unfolding root_at initials
root-says names d ms start is rising e =
    then-Ok (members_at _ _) _ start e (λ states is_states e.
    then-Ok (present_at _ _) _ start e (λ inner is_inner e.
    then-Ok (object_at _ _) _ start e (λ successors is_successors e.
    then-Ok (counts_at _ _ _) _ start e (λ counted is_counted e.
    then-Ok (states_at _) _ start e (λ found is_found e.
    then-Ok (read_successors_at _ _ _ _) _ start e (λ arcs is_arcs e.
    then-Ok (bounded_weights_at _ _ _) _ start e (λ weights is_weights e.
    let there = ap (or_absent no_members as_object) (get-object (codes "state_variables") d ms is) ∙ members-say root _ states is_states in
    let states_rise = members_at-rising root _ states (get-rising (codes "state_variables") (object ms) rising) is_states in
    let ls = successors-say part_kinds.Root 2 names successors arcs is_arcs in
    let given : (under (codes "successors") as_object d) ≡ Some successors = ap (λ o. o >>= as_object) (get-object (codes "successors") d ms is ∙ present-says root _ inner is_inner) ∙ object-says root inner successors is_successors in
    subst (RootSaid names d) (Ok-is _ start e) (record {
      states = states;
      there = there;
      keys = sym (states_at-names states found is_found);
      initial = alike (λ k. under (codes "state_variables") (under k initial_of) d) (λ k. get_member k states >>= initial_of) (λ k. under-object (get (codes "state_variables") d) states there k initial_of) (keys_of states)
          ∙ states-say states found states_rise is_found;
      successors = ls.0;
      said = rw (given, ls.1) refl;
      together = subst (Together (SuccessorSaid names) ls.0 arcs.nodes) (bounded_weights_at-Ok root 0 arcs.weights weights is_weights).0 ls.2;
    }))))))))

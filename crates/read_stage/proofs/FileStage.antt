-- A subproblem of the file says the stage that the reader gives.
use Rattle.std.proofs.Common.{◌≡◌, ℕ, zero, suc, ◌<◌, ◌==◌, ℤ, pos, ◌+ℤ◌, ◌*ℤ◌, List, [], ◌∷◌, ◌++◌, length, map, replicate, get_or, Bool, true, false, Some, Ok, codes, bytes_eq, refl, sym, ap, ap₂, subst, ◌∙◌, arith}
use Rattle.std.specs.List.{AllByRecursion, IsDistinct}
use Rattle.std.specs.Option.{IsSomeAnd}
use Rattle.std.proofs.lemmas.Bool.{eq-eqb, eqb-true, eqb-false, ne_eqb}
use Rattle.std.proofs.lemmas.List.{append_assoc, map-append, length-map, length-replicate}
use Rattle.std.proofs.lemmas.List.Elements.{All-from_recursion, recursion_from_All}
use Rattle.std.proofs.lemmas.List.Sorted.{All-permutation}
use Rattle.std.proofs.lemmas.Map.Keys.{IsDistinct-IsPermutation}
use Rattle.std.proofs.lemmas.Option.{slice_get_within}
use Rattle.serde_json.specs.Data.{Data, Items, no_items, no_members}
use Rattle.serde_json.specs.Find.{get, as_array, as_object}
use Rattle.base_num.specs.Sums.{total, dot, entry}
use Rattle.base_num.proofs.Ring.{ring, var, ◌⊕◌}
use Rattle.problem.specs.declared.parts.Decision.{Decision}
use Rattle.problem.specs.declared.parts.State as parts
use Rattle.problem.specs.declared.parts.Subproblem.{Subproblem}
use Rattle.problem.specs.declared.refusal.Place.{Place}
use Rattle.read_json.specs.Fields.{present_at, object_at, key_at}
use Rattle.read_json.specs.Limits.{members_at, items_at}
use Rattle.read_json.proofs.Accepted.{then-Ok, Ok-is}
use Rattle.read_json.proofs.Distinct.{each-weaker, name_of}
use Rattle.read_profile.specs.File as file
use Rattle.read_profile.specs.File.{Name, Numbers, State, Stage, under, or_absent, file_stage_of}
use Rattle.read_stage.specs.declared.role.Role.{Role}
use Rattle.read_stage.specs.declared.role.Role.TheVariants.{Free, Incoming, Outgoing, Random}
use Rattle.read_stage.specs.declared.variables.Variables.{Variables}
use Rattle.read_stage.specs.declared.function.Function.{Function}
use Rattle.read_stage.specs.Rows.{picked_coefficients}
use Rattle.read_stage.specs.Decisions.{decisions_from}
use Rattle.read_stage.specs.Objective.{objective_at}
use Rattle.read_stage.specs.StageParts.{StageParts, array_under, object_under, stage_parts_at}
use Rattle.read_stage.specs.Subproblem.{variables_at, decision_number_of, outs_of, read_subproblem_at}
use Rattle.read_stage.specs.Said.{decision_names, decision_numbers, incoming_numbers, random_numbers, StageSaid}
use Rattle.read_stage.proofs.UsesFit.{HasRole, decision_number_of-within, outgoing_decides, decision_number_of-back}
use Rattle.read_stage.proofs.NamesDiffer.{decisions_from-below, decisions_from-differ, names-differ}
use Rattle.read_stage.proofs.FileSays.{present-says, array-says, members-say, items-say}
use Rattle.read_stage.proofs.FileTerms.{entry_map}
use Rattle.read_stage.proofs.FileFunctions.{FunctionSaid, objective-says}
use Rattle.read_stage.proofs.FileSplit.{places, all_free, Split, VariablesSaid, variables-said}
use Rattle.read_stage.proofs.FileRows.{three-is}
use Rattle.read_stage.proofs.FileFilled.{Filled, filled-says}

-- ---- the pieces of the document

record PartsSaid (d : Data) (pieces : StageParts) : Type 0 where
  model : Data
  model_is : get (codes "subproblem") d ≡ Some model
  states : or_absent no_members as_object (get (codes "state_variables") d) ≡ Some pieces.states
  randoms : or_absent no_items as_array (get (codes "random_variables") d) ≡ Some pieces.randoms
  objective : get (codes "objective") model ≡ Some pieces.objective
  constraints : under (codes "constraints") as_array model ≡ Some pieces.constraints

array_under-says : (at : Place) (key : List ℕ) (d : Data) (ds : Items) → array_under at key d ≡ Ok ds → under key as_array d ≡ Some ds
unfolding array_under
array_under-says at key d ds e = then-Ok (present_at _ _) _ ds e (λ inner is e. rw (present-says _ _ inner is) (array-says at inner ds e))

object_under-says : (at : Place) (key : List ℕ) (d inner : Data) → object_under at key d ≡ Ok inner → get key d ≡ Some inner
unfolding object_under
object_under-says at key d inner e =
    then-Ok (present_at _ _) _ inner e (λ found is e.
    then-Ok (object_at _ _) _ inner e (λ members are e.
    present-says _ _ found is ∙ ap Some (Ok-is found inner e)))

parts-said : (at : Place) (d : Data) (pieces : StageParts) → stage_parts_at at d ≡ Ok pieces → PartsSaid d pieces
unfolding stage_parts_at
parts-said at d pieces e =
    then-Ok (members_at _ _) _ pieces e (λ states are_states e.
    then-Ok (items_at _ _) _ pieces e (λ randoms are_randoms e.
    then-Ok (object_under _ _ _) _ pieces e (λ inner is_inner e.
    then-Ok (array_under _ _ _) _ pieces e (λ variables are e.
    then-Ok (object_under _ _ _) _ pieces e (λ objective is_objective e.
    then-Ok (array_under _ _ _) _ pieces e (λ constraints are_constraints e.
    subst (PartsSaid d) (Ok-is _ pieces e) (record {
      model = inner;
      model_is = object_under-says at _ d inner is_inner;
      states = members-say at _ states are_states;
      randoms = items-say at _ randoms are_randoms;
      objective = object_under-says at _ inner objective is_objective;
      constraints = array_under-says at _ inner constraints are_constraints;
    })))))))

-- ---- numbers of variables, by their places

abbrev Below : ℕ → List ℕ → Type 0
Below n vs = AllByRecursion (λ v. v < n) vs

within : (vars : Variables) (role : Role) (vs : List ℕ) → Split vars → AllByRecursion (HasRole vars.uses.roles role) vs → Below (length vars.names) vs
within vars role vs split all = each-weaker (HasRole vars.uses.roles role) (λ v. v < length vars.names) vs (λ v has. omega (arith, slice_get_within vars.uses.roles v role has, split.long)) all

-- the numbers of the variables with these names are those at their places
by_name : (names : List Name) (y : Numbers) (vs : List ℕ) → Below (length names) vs → map y (map (name_of names) vs) ≡ map (entry (map y names)) vs
unfolding name_of
by_name names y [] all = refl
by_name names y (v ∷ vs) all = ap₂ ◌∷◌ (sym (entry_map y names v all.0)) (by_name names y vs all.1)

map_twice : {A : Type 0} (f : A → Name) (y : Numbers) (xs : List A) → map (λ x. y (f x)) xs ≡ map y (map f xs)
map_twice f y [] = refl
map_twice f y (x ∷ xs) = ap (λ zs. y (f x) ∷ zs) (map_twice f y xs)

entry_there : (f : ℕ → ℤ) (vs : List ℕ) (i : ℕ) → i < length vs → entry (map f vs) i ≡ f (get_or vs i 0)
entry_there f [] i lt = absurd (omega arith)
entry_there f (v ∷ vs) zero lt = refl
entry_there f (v ∷ vs) (suc i) lt = entry_there f vs i (omega arith)

-- outgoing variables by their numbers as decisions
outgoing_numbers : (ys : List ℤ) (roles : List Role) (vs : List ℕ) → AllByRecursion (HasRole roles Outgoing) vs
    → map (entry ys) vs ≡ map (entry (map (entry ys) (decisions_from 0 roles))) (map (decision_number_of (decisions_from 0 roles)) vs)
outgoing_numbers ys roles [] all = refl
outgoing_numbers ys roles (v ∷ vs) all =
    let decisions = decisions_from 0 roles in
    let any = outgoing_decides roles 0 v v (omega arith) all.0 in
    let there = entry_there (entry ys) decisions (decision_number_of decisions v) (decision_number_of-within decisions v any) ∙ ap (entry ys) (decision_number_of-back decisions v any) in
    ap₂ ◌∷◌ (sym there) (outgoing_numbers ys roles vs all.1)

dot_picked : (xs ys : List ℤ) (vs : List ℕ) → dot (map (entry xs) vs) (map (entry ys) vs) ≡ total (λ v. entry xs v *ℤ entry ys v) vs
dot_picked xs ys [] = refl
dot_picked xs ys (v ∷ vs) = ap (λ k. entry xs v *ℤ entry ys v +ℤ k) (dot_picked xs ys vs)

-- ---- all names differ

turned : (v w : ℕ) → (v == w) ≡ (w == v)
turned v w = by (v == w) refl
  where
    by : (b : Bool) → (v == w) ≡ b → b ≡ (w == v)
    by true e = sym (eq-eqb w v (sym (eqb-true v w e)))
    by false e = sym (ne_eqb w v (λ same. eqb-false v w e (sym same)))

all_differ : (vars : Variables) → Split vars → IsDistinct bytes_eq (map (name_of vars.names) (vars.decisions ++ (vars.uses.incoming ++ vars.uses.randoms)))
all_differ vars split =
    let n = length vars.names in
    let all = vars.decisions ++ (vars.uses.incoming ++ vars.uses.randoms) in
    let roles = replicate n Free in
    let below : Below n (places 0 n) = subst (Below n) (all_free 0 n) (decisions_from-below 0 n roles (omega (arith, length-replicate n Free))) in
    let apart : IsDistinct (λ a b. a == b) (places 0 n) = subst (IsDistinct (λ a b. a == b)) (all_free 0 n) (decisions_from-differ 0 roles) in
    names-differ vars.names all split.differ
    (recursion_from_All (λ v. v < n) all (All-permutation (λ v. v < n) (places 0 n) all split.all (All-from_recursion (λ v. v < n) (places 0 n) below)))
    (IsDistinct-IsPermutation (λ a b. a == b) turned (places 0 n) all split.all apart)

-- ---- the stage

module _ (states : List parts.State) (pieces : StageParts) (vars : Variables) (costs : Function) (F : file.Function) (s : Subproblem)
    (v : VariablesSaid states pieces vars) (o : FunctionSaid vars.names costs F) (f : Filled vars costs pieces.constraints s) where
  abbrev pub the_stage : Stage
  the_stage = record { states = v.states_are; randoms = vars.uses.names; objective = F; constraints = f.constraints }

  incoming_numbers-is : (y : Numbers) → incoming_numbers the_stage y ≡ map (entry (map y vars.names)) vars.uses.incoming
  incoming_numbers-is y = map_twice (λ (t : State). t.before) y v.states_are ∙ ap (map y) v.before ∙ by_name vars.names y vars.uses.incoming (within vars Incoming vars.uses.incoming v.split v.split.incoming_is)

  random_numbers-is : (y : Numbers) → random_numbers the_stage y ≡ map (entry (map y vars.names)) vars.uses.randoms
  random_numbers-is y = ap (map y) v.randoms_named ∙ by_name vars.names y vars.uses.randoms (within vars Random vars.uses.randoms v.split v.split.randoms_is)

  outs-are : (y : Numbers) → map (λ (t : State). y t.after) v.states_are ≡ map (entry (decision_numbers s y)) s.outs
  unfolding outs_of
  outs-are y =
      let ys : List ℤ = map y vars.names in
      let numbers : map (λ (t : State). y t.after) v.states_are ≡ map (entry ys) vars.uses.outgoing =
      map_twice (λ (t : State). t.after) y v.states_are ∙ ap (map y) v.after ∙ by_name vars.names y vars.uses.outgoing (within vars Outgoing vars.uses.outgoing v.split v.outgoing_is) in
      let decisions : map (entry ys) vars.uses.outgoing ≡ map (entry (map (entry ys) vars.decisions)) (outs_of vars.decisions vars.uses.outgoing) =
      subst (λ ds. map (entry ys) vars.uses.outgoing ≡ map (entry (map (entry ys) ds)) (map (decision_number_of ds) vars.uses.outgoing)) (sym v.split.decisions) (outgoing_numbers ys vars.uses.roles vars.uses.outgoing v.outgoing_is) in
      numbers ∙ decisions ∙ ap₂ (λ zs ws. map (entry zs) ws) (sym (f.own y)) (sym f.outs)

  costs-are : (units : ℕ) (y : Numbers) → F units y
      ≡ pos units *ℤ s.constant +ℤ dot (map (λ (d : Decision). d.cost) s.decisions) (decision_numbers s y) +ℤ dot s.state_costs (incoming_numbers the_stage y) +ℤ dot s.random_costs (random_numbers the_stage y)
  unfolding picked_coefficients
  costs-are units y =
      let ys : List ℤ = map y vars.names in
      let xs = costs.coefficients in
      let sum : List ℕ → ℤ = λ vs. total (λ v. entry xs v *ℤ entry ys v) vs in
      let first = ap₂ dot f.cost (f.own y) ∙ dot_picked xs ys vars.decisions in
      let second = ap₂ dot f.state_costs (incoming_numbers-is y) ∙ dot_picked xs ys vars.uses.incoming in
      let third = ap₂ dot f.random_costs (random_numbers-is y) ∙ dot_picked xs ys vars.uses.randoms in
      let there = ap₂ ◌+ℤ◌ (ap₂ ◌+ℤ◌ (ap₂ ◌+ℤ◌ (ap (λ k. pos units *ℤ k) f.constant) first) second) third in
      o.value units y ∙ ap (λ k. k +ℤ pos units *ℤ costs.constant) (sym (three-is vars v.split xs ys (length-map vars.names y)))
      ∙ ring (sum vars.decisions ∷ sum vars.uses.incoming ∷ sum vars.uses.randoms ∷ (pos units *ℤ costs.constant) ∷ []) (var 0 ⊕ var 1 ⊕ var 2 ⊕ var 3) (var 3 ⊕ var 0 ⊕ var 1 ⊕ var 2) tt ∙ sym there

  distinct-are : IsDistinct bytes_eq (decision_names s ++ map (λ (t : State). t.before) v.states_are ++ vars.uses.names)
  distinct-are =
      let name = name_of vars.names in
      let ds = vars.decisions in
      let vs = vars.uses.incoming in
      let ws = vars.uses.randoms in
      let parts_are : map name (ds ++ (vs ++ ws)) ≡ (map name ds ++ map name vs) ++ map name ws = map-append name ds (vs ++ ws) ∙ ap (λ (ns : List Name). map name ds ++ ns) (map-append name vs ws) ∙ sym (append_assoc (map name ds) (map name vs) (map name ws)) in
      let are = parts_are ∙ sym (ap₂ (λ (ms ns : List Name). ms ++ ns) (ap₂ (λ (ms ns : List Name). ms ++ ns) f.names v.before) v.randoms_named) in
      subst (IsDistinct bytes_eq) are (all_differ vars v.split)

  pub stage-is : StageSaid (map (λ (q : parts.State). q.name) states) the_stage s
  stage-is = record {
    states = v.named;
    randoms = sym f.randoms;
    outs = outs-are;
    objective = costs-are;
    kept = f.kept the_stage refl incoming_numbers-is random_numbers-is;
    distinct = distinct-are;
  }

pub stage-said : (states : List parts.State) (p : ℕ) (k : List ℕ) (d : Data) (s : Subproblem) → read_subproblem_at states p k d ≡ Ok s → IsSomeAnd (file_stage_of d) (λ st. StageSaid (map (λ (q : parts.State). q.name) states) st s)
unfolding read_subproblem_at file_stage_of
stage-said states p k d s e =
    then-Ok (key_at _ _) _ s e (λ name is e.
    then-Ok (stage_parts_at _ _) _ s e (λ pieces are e.
    then-Ok (variables_at _ _ _) _ s e (λ vars is_vars e.
    then-Ok (objective_at _ _ _) _ s e (λ costs is_costs e.
    let document = parts-said _ d pieces are in
    let v = variables-said states p pieces vars is_vars in
    let o = objective-says vars.names p pieces.objective costs is_costs in
    let f = filled-says vars p costs pieces.constraints s v.split e in
    rw (document.model_is, document.states, v.states_said, document.randoms, v.randoms_said, document.objective, o.1, document.constraints, f.said)
    (stage-is states pieces vars costs o.0 s v o.2 f)))))

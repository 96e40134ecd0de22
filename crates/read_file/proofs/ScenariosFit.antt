-- The stored scenarios that were read are paths through the graph with values of their random variables.
use Rattle.std.proofs.Common.{◌≡◌, ◌<◌, ◌-◌, ◌==◌, ◌&&◌, ℕ, suc, ℤ, List, [], ◌∷◌, ◌++◌, length, true, false, nat_le, nat_lt, slice_get, Option, Some, None, option_and_then, position, Ok, bytes_eq, refl, sym, ap, subst, ◌∙◌, arith}
use Rattle.std.specs.List.{list_all, list_any}
use Rattle.std.proofs.lemmas.Bool.{and_from}
use Rattle.std.proofs.lemmas.List.{length_push}
use Rattle.serde_json.specs.Data.{Data, Items}
use Rattle.serde_json.specs.Events.{items_len}
use Rattle.base_num.proofs.Tests.{and_first, and_second, all_get, some_of}
use Rattle.problem.specs.Limits.{is_name, are_numbers, values_fit, successors_in_order_fit, node_fits, are_values, step_fits, steps_fit, scenario_fits}
use Rattle.problem.specs.Parts.{own_subproblem, successors_at, subproblem_at}
use Rattle.problem.specs.declared.parts.Moment.{Moment}
use Rattle.problem.specs.declared.parts.Node.{Node}
use Rattle.problem.specs.declared.parts.ProblemParts.{ProblemParts}
use Rattle.problem.specs.declared.parts.Subproblem.{Subproblem}
use Rattle.problem.specs.declared.refusal.Part.TheVariants as part_kinds
use Rattle.problem.specs.declared.refusal.Place.{Place}
use Rattle.read_json.specs.Fields.{string_at, present_at, object_at}
use Rattle.read_json.specs.Limits.{known_at, members_at}
use Rattle.read_json.proofs.Accepted.{then-Ok, Ok-is, test-Ok, unless-Ok, list_all-push, known_at-Ok, walk_items-Ok}
use Rattle.read_json.proofs.Rising.{known-position}
use Rattle.read_file.specs.Scenarios.{successors_after, follows_at, scenario_step_at, path_at, scenario_steps_at, some_at, scenario_at, scenarios_at}
use Rattle.read_file.specs.Values.{randoms_in, values_at}
use Rattle.read_file.proofs.SuccessorsFit.{positive, one_more}
use Rattle.read_file.proofs.NodesFit.{values_at-fit}

-- ---- one step more

-- where a path that begins with one of these nodes may go on
after : ProblemParts → List ℕ → List Moment → List ℕ
after parts successors [] = successors
after parts successors (step ∷ steps) = after parts (successors_at parts step.node) steps

after-push : (parts : ProblemParts) (successors : List ℕ) (path : List Moment) (step : Moment) → after parts successors (path ++ step ∷ []) ≡ successors_at parts step.node
unfolding after
after-push parts successors [] step = refl
after-push parts successors (first ∷ path) step = after-push parts (successors_at parts first.node) path step

last_there : (path : List Moment) (step : Moment) → slice_get (path ++ step ∷ []) (length path) ≡ Some step
last_there [] step = refl
last_there (first ∷ path) step = last_there path step

steps_fit-push : (parts : ProblemParts) (successors : List ℕ) (path : List Moment) (step : Moment) → steps_fit parts successors path ≡ true → step_fits parts (after parts successors path) step ≡ true → steps_fit parts successors (path ++ step ∷ []) ≡ true
unfolding after
steps_fit-push parts successors [] step so_far fits = and_from (step_fits parts successors step) true fits refl
steps_fit-push parts successors (first ∷ path) step so_far fits =
    let tail = steps_fit parts (successors_at parts first.node) path in
    and_from (step_fits parts successors first) (steps_fit parts (successors_at parts first.node) (path ++ step ∷ [])) (and_first (step_fits parts successors first) tail so_far)
    (steps_fit-push parts (successors_at parts first.node) path step (and_second (step_fits parts successors first) tail so_far) fits)

-- ---- the subproblem of a node

is_there : (parts : ProblemParts) (m : ℕ) → list_all (node_fits parts) parts.nodes ≡ true → m < length parts.nodes → (s : Subproblem) × (subproblem_at parts m ≡ Some s)
is_there parts m all lt =
    let n = some_of parts.nodes m lt in
    let fits = all_get (node_fits parts) parts.nodes m n.0 all n.1 in
    let named = is_name n.0.name in
    let valued = values_fit (slice_get parts.subs n.0.sub) n.0 in
    let s = by (slice_get parts.subs n.0.sub) n.0 (and_second named valued (and_first (named && valued) (successors_in_order_fit (length parts.nodes) n.0) fits)) in
    (s.0, ap (option_and_then (own_subproblem parts)) n.1 ∙ s.1)
  where
    by : (o : Option Subproblem) (n : Node) → values_fit o n ≡ true → (s : Subproblem) × (o ≡ Some s)
    by None n e = cc
    by (Some s) n e = (s, refl)

are_values-there : (o : Option Subproblem) (s : Subproblem) (zs : List ℤ) → o ≡ Some s → are_numbers (length (randoms_in o)) zs ≡ true → are_values o zs ≡ true
are_values-there None s zs is e = cc
are_values-there (Some t) s zs is e = e

-- ---- steps

-- so many steps, each to a successor of the node before it
record PathFits (parts : ProblemParts) (count : ℕ) (path : List Moment) : Type 0 where
  many : length path ≡ count
  fit : steps_fit parts parts.root path ≡ true
  next : successors_after parts (slice_get path (length path - 1)) ≡ after parts parts.root path

path-grows : (parts : ProblemParts) (t : ℕ) (path : List Moment) (step : Moment) → PathFits parts t path → step_fits parts (successors_after parts (slice_get path (length path - 1))) step ≡ true → PathFits parts (suc t) (path ++ step ∷ [])
path-grows parts t path step so_far fits =
    let last : length (path ++ step ∷ []) - 1 ≡ length path = omega (arith, length_push path step) in
    record {
      many = one_more path step t so_far.many;
      fit = steps_fit-push parts parts.root path step so_far.fit (subst (λ successors. step_fits parts successors step ≡ true) so_far.next fits);
      next = ap (successors_after parts) (ap (slice_get (path ++ step ∷ [])) last ∙ last_there path step) ∙ sym (after-push parts parts.root path step);
    }

follows_at-Ok : (p : Place) (parts : ProblemParts) (path : List Moment) (node : ℕ) (x : Unit {0}) → follows_at p parts path node ≡ Ok x → list_any (λ successor. successor == node) (successors_after parts (slice_get path (length path - 1))) ≡ true
unfolding follows_at
follows_at-Ok p parts path node x e = (test-Ok (list_any (λ successor. successor == node) (successors_after parts (slice_get path (length path - 1)))) _ _ p x e).0

scenario_step_at-fits : (names : List (List ℕ)) (parts : ProblemParts) (k : ℕ) (path next : List Moment) (t : ℕ) (d : Data) → length names ≡ length parts.nodes → list_all (node_fits parts) parts.nodes ≡ true
    → scenario_step_at names parts k path t d ≡ Ok next → PathFits parts t path → PathFits parts (suc t) next
unfolding scenario_step_at
scenario_step_at-fits names parts k path next t d as_many all e so_far =
    then-Ok (object_at _ _) _ next e (λ members is e.
    then-Ok (present_at _ _) _ next e (λ inner is e.
    then-Ok (string_at _ _) _ next e (λ name is e.
    then-Ok (members_at _ _) _ next e (λ support is e.
    then-Ok (known_at _ _) _ next e (λ node is_node e.
    then-Ok (follows_at _ _ _ _) _ next e (λ follows is_follows e.
    then-Ok (values_at _ _ _ _ _) _ next e (λ values is_values e.
    let known = (known-position names name node (known_at-Ok _ (position (bytes_eq name) names) node is_node)).0 in
    let s = is_there parts node all (omega (arith, known, as_many)) in
    let fit = values_at-fit part_kinds.Step k t _ support values is_values in
    let step_successors = successors_after parts (slice_get path (length path - 1)) in
    subst (PathFits parts (suc t)) (Ok-is _ next e) (path-grows parts t path _ so_far
    (and_from (list_any (λ successor. successor == node) step_successors) (are_values (subproblem_at parts node) values) (follows_at-Ok _ parts path node follows is_follows)
    (are_values-there (subproblem_at parts node) s.0 values s.1 fit))))))))))

path_at-fit : (names : List (List ℕ)) (parts : ProblemParts) (k : ℕ) (ds : Items) (path : List Moment) → length names ≡ length parts.nodes → list_all (node_fits parts) parts.nodes ≡ true → path_at names parts k ds ≡ Ok path → PathFits parts (items_len ds) path
unfolding path_at after
path_at-fit names parts k ds path as_many all e =
    walk_items-Ok (PathFits parts) (scenario_step_at names parts k) (λ found next t d e so_far. scenario_step_at-fits names parts k found next t d as_many all e so_far)
    ds [] path 0 (items_len ds) (omega arith) e (record { many = refl; fit = refl; next = refl })

-- ---- scenarios

-- so many scenarios
record ScenariosFit (parts : ProblemParts) (count : ℕ) (scenarios : List (List Moment)) : Type 0 where
  many : length scenarios ≡ count
  fit : list_all (scenario_fits parts) scenarios ≡ true

some_at-Ok : (p : Place) (all steps : Items) → some_at p all ≡ Ok steps → (items_len steps == 0) ≡ false
unfolding some_at
some_at-Ok p all steps e = let part_kinds = unless-Ok (items_len all == 0) _ _ p steps e in subst (λ ds. (items_len ds == 0) ≡ false) (Ok-is all steps part_kinds.1) part_kinds.0

scenario_at-fits : (names : List (List ℕ)) (parts : ProblemParts) (found next : List (List Moment)) (k : ℕ) (d : Data) → length names ≡ length parts.nodes → list_all (node_fits parts) parts.nodes ≡ true
    → scenario_at names parts found k d ≡ Ok next → ScenariosFit parts k found → ScenariosFit parts (suc k) next
unfolding scenario_at
scenario_at-fits names parts found next k d as_many all e so_far =
    then-Ok (scenario_steps_at _ _) _ next e (λ items is e.
    then-Ok (some_at _ _) _ next e (λ steps is_some e.
    then-Ok (path_at _ _ _ _) _ next e (λ path is_path e.
    let p = path_at-fit names parts k steps path as_many all is_path in
    let some : nat_lt 0 (length path) ≡ true = rw p.many (positive (items_len steps) (some_at-Ok _ items steps is_some)) in
    subst (ScenariosFit parts (suc k)) (Ok-is _ next e) (record {
      many = one_more found path k so_far.many;
      fit = list_all-push (scenario_fits parts) found path so_far.fit (and_from (nat_lt 0 (length path)) (steps_fit parts parts.root path) some p.fit);
    }))))

-- steps fit in a problem with scenarios as they do without
steps_same : (parts : ProblemParts) (scenarios : List (List Moment)) (successors : List ℕ) (steps : List Moment) → steps_fit (record parts { scenarios = scenarios }) successors steps ≡ steps_fit parts successors steps
steps_same parts scenarios successors [] = refl
steps_same parts scenarios successors (step ∷ steps) = ap (λ b. step_fits parts successors step && b) (steps_same parts scenarios (successors_at parts step.node) steps)

all_same : (parts : ProblemParts) (scenarios some : List (List Moment)) → list_all (scenario_fits (record parts { scenarios = scenarios })) some ≡ list_all (scenario_fits parts) some
all_same parts scenarios [] = refl
all_same parts scenarios (path ∷ paths) = rw (steps_same parts scenarios parts.root path, all_same parts scenarios paths) refl

pub scenarios_at-fit : (names : List (List ℕ)) (parts : ProblemParts) (ds : Items) (scenarios : List (List Moment)) → length names ≡ length parts.nodes → list_all (node_fits parts) parts.nodes ≡ true → nat_le (items_len ds) 1000 ≡ true
    → scenarios_at names parts ds ≡ Ok scenarios → (nat_le (length scenarios) 1000 ≡ true) × (list_all (scenario_fits (record parts { scenarios = scenarios })) scenarios ≡ true)
unfolding scenarios_at
scenarios_at-fit names parts ds scenarios as_many all few e =
    let s = walk_items-Ok (ScenariosFit parts) (scenario_at names parts) (λ found next k d e so_far. scenario_at-fits names parts found next k d as_many all e so_far)
    ds [] scenarios 0 (items_len ds) (omega arith) e (record { many = refl; fit = refl }) in
    (rw s.many few, all_same parts scenarios scenarios ∙ s.fit)

-- The reader of a node and of a stored scenario refuses what its checks find first.
use Rattle.std.proofs.Common.{◌≡◌, ◌==◌, ℕ, List, [], nat_le, true, codes, position, bytes_eq, Option, Some, Ok, refl, ap, subst, ◌∙◌}
use Rattle.std.proofs.lemmas.Bool.{eqb-true}
use Rattle.serde_json.specs.Data.{Data, Items, Members}
use Rattle.serde_json.specs.Events.{items_len}
use Rattle.serde_json.specs.Find.{get}
use Rattle.problem.specs.declared.parts.Moment.{Moment}
use Rattle.problem.specs.declared.parts.Node.{Node}
use Rattle.problem.specs.declared.parts.ProblemParts.{ProblemParts}
use Rattle.problem.specs.declared.refusal.Part.TheVariants as part_kinds
use Rattle.problem.specs.declared.refusal.Place.{Place}
use Rattle.problem.specs.declared.refusal.RefusalKind.TheVariants as kinds
use Rattle.read_json.specs.Fields.{keys_of, place, key_at, present_at, string_at, object_at, weight_at}
use Rattle.read_json.specs.Limits.{known_at, members_at, items_at}
use Rattle.read_json.proofs.Accepted.{Ok-is, unless-Ok}
use Rattle.read_file.specs.Values.{randoms_of, values_at}
use Rattle.read_file.specs.Successors.{no_successors, successor_at, read_successors_at}
use Rattle.read_file.specs.Weights.{bounded_weights_at}
use Rattle.read_file.specs.Realizations.{at_node, at_realization, no_realizations, realization_at, certain_at, listed_at, realizations_at}
use Rattle.read_file.specs.Nodes.{stop_at, transitions_at, read_node_at, nodes_at}
use Rattle.read_file.specs.Scenarios.{at_scenario, scenario_steps_at, some_at, path_at, scenario_at, scenarios_at}
use Rattle.run_program.specs.FirstRefusal.{Check, of_each, nth_item, refusal_of}
use Rattle.run_program.specs.PresentParts as there
use Rattle.run_program.specs.CheckList.{realization_checks, outcome_checks, next_checks, transition_checks, node_checks, scenario_checks}
use Rattle.run_program.proofs.FirstRefusal.{Told, refusal-same, one-then, all-then, one-last, made, tested, either, all-members, all-items}
use Rattle.run_program.proofs.PresentFacts.{entry-is, own_name-is, own_text-is, own_subproblem-is, outcomes-is, outcome-is, next_members-is, next_entry-is, randoms-is, realizations-is, next-is, stop-is, steps-is}
use Rattle.run_program.proofs.CheckedRoot.{successor-same}

realization-same : (n : ℕ) (names : List (List ℕ)) (found other : there.Realizations) (r : ℕ) (d : Data) → refusal_of (realization_at n names other r d) ≡ refusal_of (realization_at n names found r d)
unfolding realization_at
realization-same n names found other r d =
    refusal-same (object_at (at_realization n r) d) _ _ (λ all.
    refusal-same (members_at (at_realization n r) (get (codes "support") d)) _ _ (λ support.
    refusal-same (present_at (at_realization n r) (get (codes "probability") d)) _ _ (λ inner.
    refusal-same (weight_at (at_realization n r) inner) _ _ (λ weight.
    refusal-same (values_at part_kinds.Support n r names support) _ _ (λ values. refl)))))

none-of : {R : Type 0} (checks : ℕ → List (Check R)) (o : Option Items) (ds : Items) → o ≡ Some ds → (items_len ds == 0) ≡ true → of_each checks 0 (there.items_in o) ≡ []
none-of checks o ds is none = ap (λ o. of_each checks 0 (there.items_in o)) is ∙ ap (of_each checks 0) (eqb-true (items_len ds) 0 none)

module _ (bytes : List ℕ) (n : ℕ) where
  listed-told : (ns : List (List ℕ)) (ds : Items) → there.randoms n bytes ≡ Some ns → there.outcomes n bytes ≡ Some ds
      → Told bytes (of_each (realization_checks n) 0 (there.items_in (there.outcomes n bytes))) (listed_at n ns ds)
  unfolding realization_checks
  listed-told ns ds are is =
      all-items bytes (realization_checks n) (realization_at n ns) (there.outcomes n bytes) ds no_realizations is
      (λ found r d e. one-last bytes _ (realization_at n ns found r d) (rw (are, outcome-is bytes n r ds d is e) (realization-same n ns found no_realizations r d)))

  realizations-told : (ns : List (List ℕ)) (ds : Items) → there.randoms n bytes ≡ Some ns → there.outcomes n bytes ≡ Some ds
      → Told bytes (outcome_checks bytes n) (realizations_at n ns ds)
  unfolding realizations_at outcome_checks
  realizations-told ns ds are is =
      tested bytes _ _ (nat_le (items_len ds) 100) kinds.TooLarge (at_node n) _ (rw is refl) (λ few.
      either bytes _ (of_each (realization_checks n) 0 (there.items_in (there.outcomes n bytes))) (items_len ds == 0) (certain_at (at_node n) ns) (listed_at n ns ds) (rw (are, is) refl)
      (none-of (realization_checks n) (there.outcomes n bytes) ds is) (λ some. listed-told ns ds are is))

  next-told : (ns ms : Members) → there.table_there (codes "nodes") bytes ≡ Some ns → there.next_members n bytes ≡ Some ms
      → Told bytes (of_each (next_checks n) 0 (there.members_in (there.next_members n bytes))) (read_successors_at part_kinds.Successor n (keys_of ns) ms)
  unfolding read_successors_at next_checks
  next-told ns ms are is =
      all-members bytes (next_checks n) (λ found i k d. successor_at (place part_kinds.Successor n i 0) (keys_of ns) found k d) (there.next_members n bytes) ms no_successors is
      (λ found i k d e. one-last bytes _ (successor_at (place part_kinds.Successor n i 0) (keys_of ns) found k d)
      (rw (are, next_entry-is bytes n i ms (k, d) is e) (successor-same part_kinds.Successor n i (keys_of ns) found no_successors k d)))

  transitions-told : (ns : Members) (it : List ℕ × Data) (ms : Members) → there.table_there (codes "nodes") bytes ≡ Some ns → there.entry_there (codes "nodes") n bytes ≡ Some it → there.next_members n bytes ≡ Some ms
      → Told bytes (transition_checks bytes n) (transitions_at (keys_of ns) n ms (get (codes "stop") it.1))
  unfolding transitions_at transition_checks
  transitions-told ns it ms are is next =
      all-then bytes (of_each (next_checks n) 0 (there.members_in (there.next_members n bytes))) _ (read_successors_at part_kinds.Successor n (keys_of ns) ms) _ (next-told ns ms are next) (λ successors e1.
      one-then bytes _ _ (stop_at (at_node n) (get (codes "stop") it.1)) _ (rw is refl) (λ stop e2.
      made bytes _ (bounded_weights_at (at_node n) stop successors.weights) _ (one-last bytes _ (bounded_weights_at (at_node n) stop successors.weights) (rw (next-is bytes n ns ms successors are next e1, stop-is bytes n it is stop e2) refl))))

  pub node-told : (ns ss : Members) (all : there.SubproblemTable) (it : List ℕ × Data) (found : List Node) → there.table_there (codes "nodes") bytes ≡ Some ns → there.table_there (codes "subproblems") bytes ≡ Some ss
      → there.subproblems bytes ≡ Some all → all.names ≡ keys_of ss → there.entry_there (codes "nodes") n bytes ≡ Some it → Told bytes (node_checks bytes n) (read_node_at (keys_of ns) all found n it.0 it.1)
  unfolding node_checks read_node_at
  node-told ns ss all it found are subs have same is =
      one-then bytes _ _ (key_at (at_node n) it.0) _ (rw is refl) (λ name e1.
      one-then bytes _ _ (object_at (at_node n) it.1) _ (rw is refl) (λ members e2.
      one-then bytes _ _ (present_at (at_node n) (get (codes "subproblem") it.1)) _ (rw is refl) (λ inner e3.
      let is3 = own_name-is bytes n it is inner e3 in
      one-then bytes _ _ (string_at (at_node n) inner) _ (rw is3 refl) (λ text e4.
      let is4 = own_text-is bytes n inner text is3 e4 in
      one-then bytes _ _ (items_at (at_node n) (get (codes "realizations") it.1)) _ (rw is refl) (λ ds e5.
      let is5 = outcomes-is bytes n it is ds e5 in
      one-then bytes _ _ (members_at (at_node n) (get (codes "successors") it.1)) _ (rw is refl) (λ ms e6.
      let is6 = next_members-is bytes n it is ms e6 in
      one-then bytes _ _ (known_at (at_node n) (position (bytes_eq text) all.names)) _ (rw (is4, subs, same) refl) (λ sub e7.
      let is7 = own_subproblem-is bytes n text ss sub is4 subs (subst (λ names. known_at (at_node n) (position (bytes_eq text) names) ≡ Ok sub) same e7) in
      let is8 = randoms-is bytes n sub all is7 have in
      all-then bytes (outcome_checks bytes n) _ (realizations_at n (randoms_of all.subs sub) ds) _ (realizations-told (randoms_of all.subs sub) ds is8 is5) (λ rs e8.
      one-then bytes _ _ (bounded_weights_at (at_node n) 0 rs.weights) _ (rw (realizations-is bytes n (randoms_of all.subs sub) ds rs is8 is5 e8) refl) (λ ws e9.
      made bytes _ (transitions_at (keys_of ns) n ms (get (codes "stop") it.1)) _ (transitions-told ns it ms are is is6))))))))))

module _ (bytes : List ℕ) where
  pub nodes-told : (ns ss : Members) (all : there.SubproblemTable) → there.table_there (codes "nodes") bytes ≡ Some ns → there.table_there (codes "subproblems") bytes ≡ Some ss
      → there.subproblems bytes ≡ Some all → all.names ≡ keys_of ss
      → Told bytes (of_each (node_checks bytes) 0 (there.entries (codes "nodes") bytes)) (nodes_at (keys_of ns) all ns)
  unfolding nodes_at there.entries
  nodes-told ns ss all are subs have same =
      all-members bytes (node_checks bytes) (read_node_at (keys_of ns) all) (there.table_there (codes "nodes") bytes) ns [] are
      (λ found n k d e. node-told bytes n ns ss all (k, d) found are subs have same (entry-is bytes (codes "nodes") n ns (k, d) are e))

some-same : (at : Place) (ds es : Items) → some_at at ds ≡ Ok es → ds ≡ es
unfolding some_at
some-same at ds es e = Ok-is ds es (unless-Ok (items_len ds == 0) (Ok ds) kinds.Scenario at es e).1

module _ (bytes : List ℕ) (ns : Members) (parts : ProblemParts) (stored : Items) (are : there.table_there (codes "nodes") bytes ≡ Some ns) (graph : there.graph bytes ≡ Some parts) (is : there.stored bytes ≡ Some stored) where
  scenario-told : (found : List (List Moment)) (k : ℕ) (d : Data) → nth_item k stored ≡ Some d → Told bytes (scenario_checks k) (scenario_at (keys_of ns) parts found k d)
  unfolding scenario_at scenario_checks
  scenario-told found k d e =
      one-then bytes _ _ (scenario_steps_at (at_scenario k) d) _ (rw (is, e) refl) (λ all e1.
      let is1 = steps-is bytes k stored d all is e e1 in
      one-then bytes _ _ (some_at (at_scenario k) all) _ (rw is1 refl) (λ steps e2.
      made bytes _ (path_at (keys_of ns) parts k steps) _ (one-last bytes _ (path_at (keys_of ns) parts k steps) (rw (are, graph, is1, some-same (at_scenario k) all steps e2) refl))))

  pub scenarios-told : Told bytes (of_each scenario_checks 0 (there.items_in (there.stored bytes))) (scenarios_at (keys_of ns) parts stored)
  unfolding scenarios_at
  scenarios-told = all-items bytes scenario_checks (scenario_at (keys_of ns) parts) (there.stored bytes) stored [] is scenario-told

-- The refusal of a problem is the one that the first check finds.
use Rattle.std.proofs.Common.{◌≡◌, ℕ, List, [], ◌++◌, codes, Some, Result, Ok, Err, refl, sym, ap, subst, ◌∙◌}
use Rattle.std.proofs.lemmas.List.{append_assoc}
use Rattle.serde_json.specs.Data.{Data, Items, Members}
use Rattle.serde_json.specs.Events.{members_len}
use Rattle.serde_json.specs.Find.{get, get_member}
use Rattle.problem.specs.declared.parts.ProblemParts.{ProblemParts}
use Rattle.problem.specs.declared.parts.State.{State}
use Rattle.problem.specs.declared.refusal.Part.TheVariants as part_kinds
use Rattle.problem.specs.declared.refusal.Refusal.{Refusal}
use Rattle.problem.specs.Validated.{Validated}
use Rattle.read_json.specs.Steps.{◌>>=◌}
use Rattle.read_json.specs.Fields.{keys_of, whole, json_at, present_at, object_at}
use Rattle.read_json.specs.Limits.{members_at, items_at}
use Rattle.read_json.proofs.Accepted.{then-Ok, Ok-is}
use Rattle.read_file.specs.Version.{version_at}
use Rattle.read_file.specs.Tables.{table_at, sizes_at, tables_at}
use Rattle.read_file.specs.Root.{root, states_at, counts_at, root_at}
use Rattle.read_file.specs.Successors.{read_successors_at}
use Rattle.read_file.specs.Weights.{bounded_weights_at}
use Rattle.read_file.specs.Subproblems as subs
use Rattle.read_file.specs.Subproblems.{subproblems_at}
use Rattle.read_file.specs.Nodes.{nodes_at}
use Rattle.read_file.specs.Scenarios.{scenarios_at}
use Rattle.read_file.specs.Read.{graph_at, problem_parts_of}
use Rattle.read_file.specs.Problem.{problem_at}
use Rattle.problem.specs.Arranged.{arranged}
use Rattle.theory.specs.declared.cut.Cut.{Cut}
use Rattle.theory.specs.Range.{based}
use Rattle.policy_robust.specs.Alternatives.{alternatives_of}
use Rattle.run_program.specs.FirstRefusal.{Check, of_each}
use Rattle.run_program.specs.PresentParts as there
use Rattle.run_program.specs.CheckList.{whole_checks, root_checks, subproblem_checks, node_checks, scenario_checks, graph_checks, base_checks, checks, list_checks}
use Rattle.run_program.specs.Outcome.{WithBase, with_base, based_of, based_at, problem_with_alternatives_at, with_alternatives}
use Rattle.run_program.proofs.FirstRefusal.{Told, one-then, all-then, one-last, made, in-turn}
use Rattle.run_program.proofs.PresentFacts.{document-is, table-is, stored-is, state_members-is, start_value-is, start_members-is, states-is, start-is, start_weights-is, subproblems-is, nodes-is, graph-is, scenarios-is, validated-is}
use Rattle.run_program.proofs.CheckedRoot.{root-told}
use Rattle.run_program.proofs.CheckedSubproblems.{subproblems-told}
use Rattle.run_program.proofs.CheckedNodes.{nodes-told, scenarios-told}
use Rattle.run_program.proofs.CheckedGraph.{graph-told, arranged-parts, alternatives-told}

-- where the root was read, its part_kinds are there
record RootThere (bytes : List ℕ) (r : there.Root) : Type 0 where
  states : there.states_there bytes ≡ Some r.states
  successors : there.Successors
  start : there.start bytes ≡ Some successors
  nodes : successors.nodes ≡ r.nodes
  weights : there.start_weights bytes ≡ Some r.weights

root-there : (bytes : List ℕ) (ns ms : Members) (r : there.Root) → there.table_there (codes "nodes") bytes ≡ Some ns → there.table_there (codes "root") bytes ≡ Some ms → root_at (keys_of ns) ms ≡ Ok r → RootThere bytes r
unfolding root_at
root-there bytes ns ms r are is e =
    then-Ok (members_at root (get_member (codes "state_variables") ms)) _ r e (λ ss e1 e.
    then-Ok (present_at root (get_member (codes "successors") ms)) _ r e (λ inner e2 e.
    then-Ok (object_at root inner) _ r e (λ successors e3 e.
    then-Ok (counts_at root (members_len ss) (members_len successors)) _ r e (λ counted e4 e.
    then-Ok (states_at ss) _ r e (λ qs e5 e.
    then-Ok (read_successors_at part_kinds.Root 2 (keys_of ns) successors) _ r e (λ found e6 e.
    then-Ok (bounded_weights_at root 0 found.weights) _ r e (λ ws e7 e.
    let is3 = start_members-is bytes inner successors (start_value-is bytes ms is inner e2) e3 in
    let is6 = start-is bytes ns successors found are is3 e6 in
    subst (RootThere bytes) (Ok-is _ r e) (record {
      states = states-is bytes ss qs (state_members-is bytes ms is ss e1) e5;
      successors = found;
      start = is6;
      nodes = refl;
      weights = start_weights-is bytes found ws is6 e7;
    }))))))))

table-names : (qs : List State) (ms : Members) (all : there.SubproblemTable) → subproblems_at qs ms ≡ Ok all → all.names ≡ keys_of ms
unfolding subproblems_at
table-names qs ms all e = then-Ok (subs.listed_subproblems_at qs ms) _ all e (λ found e1 e. ap (λ (t : there.SubproblemTable). t.names) (sym (Ok-is _ all e)))

base-problem : (p : Validated) (r : Result (List (List Cut)) (ℕ × ℕ)) (x : WithBase) → with_base p r ≡ Ok x → p ≡ x.problem
base-problem p (Ok pools) x e = ap (λ (b : WithBase). b.problem) (Ok-is _ x e)
base-problem p (Err at) x e = absurd cc

based-problem : (p : Validated) (x : WithBase) → based_of p ≡ Ok x → p ≡ x.problem
unfolding based_of
based-problem p x e = base-problem p (based p) x e

module _ (bytes : List ℕ) where
  abbrev subproblem_list : List (Check Refusal)
  subproblem_list = of_each (subproblem_checks bytes) 0 (there.entries (codes "subproblems") bytes)

  abbrev node_list : List (Check Refusal)
  node_list = of_each (node_checks bytes) 0 (there.entries (codes "nodes") bytes)

  abbrev scenario_list : List (Check Refusal)
  scenario_list = of_each scenario_checks 0 (there.items_in (there.stored bytes))

  module _ {B : Type 0} (tail : List (Check Refusal)) (F : Validated → Result B Refusal)
      (then : (d : Data) (ns : Members) (g : ProblemParts) (p : Validated) → json_at bytes ≡ Ok d → table_at (codes "nodes") d ≡ Ok ns → there.table_there (codes "nodes") bytes ≡ Some ns → there.graph bytes ≡ Some g
      → g.nodes ≡ p.parts.nodes → there.validated bytes ≡ Some p → Told bytes tail (F p)) where
    -- what comes after the tables
    parts-then : (d : Data) (rt ns ss : Members) (ds : Items) → json_at bytes ≡ Ok d → table_at (codes "nodes") d ≡ Ok ns → there.table_there (codes "root") bytes ≡ Some rt → there.table_there (codes "nodes") bytes ≡ Some ns
        → there.table_there (codes "subproblems") bytes ≡ Some ss → there.stored bytes ≡ Some ds
        → Told bytes (root_checks bytes ++ (subproblem_list ++ (node_list ++ (scenario_list ++ (graph_checks ++ tail)))))
        ((graph_at (keys_of ns) (record { root = rt; nodes = ns; subproblems = ss; scenarios = ds }) >>= λ g. scenarios_at (keys_of ns) g ds >>= λ paths. Ok (record g { scenarios = paths })) >>= λ parts. arranged parts >>= F)
    unfolding graph_at
    parts-then d rt ns ss ds e1 e2 a b c s =
        in-turn bytes _ (graph_at (keys_of ns) (record { root = rt; nodes = ns; subproblems = ss; scenarios = ds })) _ _ (
        in-turn bytes _ (root_at (keys_of ns) rt) _ _ (
        all-then bytes (root_checks bytes) _ (root_at (keys_of ns) rt) _ (root-told bytes ns rt b a) (λ r e3.
        let it = root-there bytes ns rt r b a e3 in
        in-turn bytes _ (subproblems_at r.states ss) _ _ (
        all-then bytes subproblem_list _ (subproblems_at r.states ss) _ (subproblems-told bytes r.states ss it.states c) (λ all e4.
        let have = subproblems-is bytes r.states ss all it.states c e4 in
        in-turn bytes _ (nodes_at (keys_of ns) all ns) _ _ (
        all-then bytes node_list _ (nodes_at (keys_of ns) all ns) _ (nodes-told bytes ns ss all b c have (table-names r.states ss all e4)) (λ nodes e5.
        let g : ProblemParts = record { states = r.states; root = r.nodes; root_weights = r.weights; nodes = nodes; subs = all.subs; scenarios = [] } in
        let is : there.graph bytes ≡ Some g = subst (λ m. there.graph bytes ≡ Some (record { states = r.states; root = m; root_weights = r.weights; nodes = nodes; subs = all.subs; scenarios = [] })) it.nodes
        (graph-is bytes r.states it.successors r.weights all nodes it.states it.start it.weights have (nodes-is bytes ns all nodes b have e5)) in
        in-turn bytes _ (scenarios_at (keys_of ns) g ds) _ _ (
        all-then bytes scenario_list _ (scenarios_at (keys_of ns) g ds) _ (scenarios-told bytes ns g ds b is s) (λ paths e6.
        all-then bytes graph_checks tail (arranged (record g { scenarios = paths })) F (graph-told bytes g is paths) (λ p e7.
        then d ns g p e1 e2 b is (ap (λ (parts : ProblemParts). parts.nodes) (arranged-parts (record g { scenarios = paths }) p e7)) (validated-is bytes g paths p is (scenarios-is bytes ns g ds paths b is s e6) e7)))))))))))

    problem-then : Told bytes (whole_checks ++ (root_checks bytes ++ (subproblem_list ++ (node_list ++ (scenario_list ++ (graph_checks ++ tail)))))) (problem_at bytes >>= F)
    unfolding problem_at problem_parts_of tables_at whole_checks
    problem-then =
        in-turn bytes _ (problem_parts_of bytes) arranged F (
        in-turn bytes _ (json_at bytes) _ _ (
        one-then bytes _ _ (json_at bytes) _ refl (λ d e1.
        let doc = document-is bytes d e1 in
        in-turn bytes _ (tables_at d) _ _ (
        in-turn bytes _ (object_at whole d) _ _ (
        one-then bytes _ _ (object_at whole d) _ (rw doc refl) (λ all e2.
        in-turn bytes _ (version_at d) _ _ (
        one-then bytes _ _ (version_at d) _ (rw doc refl) (λ version e3.
        in-turn bytes _ (table_at (codes "root") d) _ _ (
        one-then bytes _ _ (table_at (codes "root") d) _ (rw doc refl) (λ rt e4.
        in-turn bytes _ (table_at (codes "nodes") d) _ _ (
        one-then bytes _ _ (table_at (codes "nodes") d) _ (rw doc refl) (λ ns e5.
        in-turn bytes _ (table_at (codes "subproblems") d) _ _ (
        one-then bytes _ _ (table_at (codes "subproblems") d) _ (rw doc refl) (λ ss e6.
        in-turn bytes _ (items_at whole (get (codes "validation_scenarios") d)) _ _ (
        one-then bytes _ _ (items_at whole (get (codes "validation_scenarios") d)) _ (rw doc refl) (λ ds e7.
        let a = table-is bytes (codes "root") d rt doc e4 in
        let b = table-is bytes (codes "nodes") d ns doc e5 in
        let c = table-is bytes (codes "subproblems") d ss doc e6 in
        let s = stored-is bytes d ds doc e7 in
        in-turn bytes _ (sizes_at ns ss ds) _ _ (
        one-then bytes _ _ (sizes_at ns ss ds) _ (rw (b, c, s) refl) (λ sizes e8. parts-then d rt ns ss ds e1 e5 a b c s))))))))))))))))))

  -- one after another, however they are put together
  nested : (w r s n c g b : List (Check Refusal)) → w ++ r ++ s ++ n ++ c ++ g ++ b ≡ w ++ (r ++ (s ++ (n ++ (c ++ (g ++ b)))))
  nested w r s n c g b =
      append_assoc (w ++ r ++ s ++ n ++ c) g b ∙ append_assoc (w ++ r ++ s ++ n) c (g ++ b) ∙ append_assoc (w ++ r ++ s) n (c ++ (g ++ b)) ∙ append_assoc (w ++ r) s (n ++ (c ++ (g ++ b)))
      ∙ append_assoc w r (s ++ (n ++ (c ++ (g ++ b))))

  pub based-told : Told bytes (checks bytes) (based_at bytes)
  unfolding checks based_at base_checks
  based-told =
      rw (nested whole_checks (root_checks bytes) subproblem_list node_list scenario_list graph_checks base_checks)
      (problem-then base_checks based_of (λ d ns g p e1 e2 b is same validated. one-last bytes _ (based_of p) (rw validated refl)))

  pub listed-told : Told bytes (checks bytes ++ list_checks bytes) (problem_with_alternatives_at bytes)
  unfolding checks base_checks based_at problem_with_alternatives_at
  listed-told =
      rw (
        append_assoc (whole_checks ++ root_checks bytes ++ subproblem_list ++ node_list ++ scenario_list ++ graph_checks) base_checks (list_checks bytes),
        nested whole_checks (root_checks bytes) subproblem_list node_list scenario_list graph_checks (base_checks ++ list_checks bytes),
      )
      (in-turn bytes _ (problem_at bytes) based_of (with_alternatives bytes)
      (problem-then (base_checks ++ list_checks bytes) (λ p. based_of p >>= with_alternatives bytes) (λ d ns g p e1 e2 b is same validated.
      one-then bytes _ (list_checks bytes) (based_of p) _ (rw validated refl) (λ x e3.
      made bytes _ (alternatives_of x.problem bytes) _ (alternatives-told bytes ns g b is d x.problem e1 e2 (same ∙ ap (λ (q : Validated). q.parts.nodes) (based-problem p x e3)))))))

-- Nodes, with their stages, realizations and successors.
use Rattle.std.proofs.Common.{◌≡◌, ℕ, List, [], ◌∷◌, ◌++◌, map, codes, position, bytes_eq, slice_get, Option, Some, IsSomeAnd, Ok, refl, sym, ap, subst, ◌∙◌}
use Rattle.std.specs.List.{AllZip}
use Rattle.serde_json.specs.Data.{Data, no_items, Members, no_members}
use Rattle.serde_json.specs.Find.{get, get_member, as_str, as_array, as_object}
use Rattle.problem.specs.declared.parts.State as states
use Rattle.problem.specs.declared.parts.Node as nodes
use Rattle.problem.specs.declared.parts.Subproblem.{Subproblem}
use Rattle.problem.specs.declared.refusal.Part.TheVariants as part_kinds
use Rattle.read_json.specs.Fields.{keys_of, key_at, string_at, present_at, object_at}
use Rattle.read_json.specs.Limits.{known_at, members_at, items_at}
use Rattle.read_json.proofs.Accepted.{then-Ok, Ok-is, known_at-Ok}
use Rattle.read_json.proofs.Rising.{RisingMembers}
use Rattle.read_profile.specs.File.{Name, Stage, FileSuccessor, FileNode, ◌>>=◌, under, or_absent, natural, each, each_member, file_stage_of, successor_of, realization_of, or_certain, file_node_of}
use Rattle.read_stage.specs.Said.{StageSaid}
use Rattle.read_stage.specs.Subproblem.{read_subproblem_at}
use Rattle.read_stage.proofs.FileStage.{stage-said}
use Rattle.read_stage.proofs.FileSays.{present-says, string-says, members-say, items-say}
use Rattle.read_stage.proofs.FileEach.{walk_members-says}
use Rattle.read_file.specs.declared.nodes.Transitions.{Transitions}
use Rattle.read_file.specs.declared.subproblems.SubproblemTable.{SubproblemTable}
use Rattle.read_file.specs.Subproblems.{another_at, listed_subproblems_at, subproblems_at}
use Rattle.read_file.specs.Values.{randoms_in, randoms_of}
use Rattle.read_file.specs.Realizations.{at_node, realizations_at}
use Rattle.read_file.specs.Successors.{read_successors_at}
use Rattle.read_file.specs.Weights.{bounded_weights_at}
use Rattle.read_file.specs.Nodes.{stop_at, transitions_at, read_node_at, nodes_at}
use Rattle.read_file.specs.Said.{Together, RealizationSaid, SuccessorSaid}
use Rattle.read_file.proofs.SuccessorsFit.{bounded_weights_at-Ok}
use Rattle.read_file.proofs.FileFound.{value-of, some-value, all_zip-push, beside, known-name, found-at}
use Rattle.read_file.proofs.FileSuccessors.{successors-say, stop-says}
use Rattle.read_file.proofs.FileRealizations.{realizations-say}

-- ---- subproblems

-- a stage for each subproblem; the states have these names
pub record StagesSaid (names : List Name) (ms : Members) (table : SubproblemTable) : Type 0 where
  pub keys : table.names ≡ keys_of ms
  pub stages : List Stage
  pub said : each_member (λ k d. file_stage_of d) ms ≡ Some stages
  pub fit : AllZip (StageSaid names) stages table.subs

state_names : List states.State → List Name
state_names qs = map (λ (q : states.State). q.name) qs

another-says : (qs : List states.State) (found next : List Subproblem) (p : ℕ) (k : Name) (d : Data) (done : List Stage) → another_at qs found p k d ≡ Ok next → AllZip (StageSaid (state_names qs)) done found
    → (st : Stage) × (file_stage_of d ≡ Some st) × AllZip (StageSaid (state_names qs)) (done ++ st ∷ []) next
unfolding another_at state_names
another-says qs found next p k d done e so_far =
    then-Ok (read_subproblem_at _ _ _ _) _ next e (λ sub is e.
    let st = value-of (file_stage_of d) (λ st. StageSaid (state_names qs) st sub) (stage-said qs p k d sub is) in
    (st.0, st.1, subst (AllZip (StageSaid (state_names qs)) (done ++ st.0 ∷ [])) (Ok-is _ next e) (all_zip-push (StageSaid (state_names qs)) done found st.0 sub so_far st.2)))

pub subproblems-say : (qs : List states.State) (ms : Members) (table : SubproblemTable) → subproblems_at qs ms ≡ Ok table → StagesSaid (map (λ (q : states.State). q.name) qs) ms table
unfolding subproblems_at listed_subproblems_at state_names
subproblems-say qs ms table e =
    then-Ok (listed_subproblems_at _ _) _ table e (λ subs is e.
    let all = walk_members-says (λ found done. AllZip (StageSaid (state_names qs)) done found) (another_at qs) (λ k d. file_stage_of d) (λ found next p k d done e so_far. another-says qs found next p k d done e so_far) ms [] subs 0 [] is tt in
    subst (StagesSaid (state_names qs) ms) (Ok-is _ table e) (record { keys = refl; stages = all.0; said = all.1; fit = all.2 }))

-- the stage that a subproblem with a known number says
stage-found : (names : List Name) (ms : Members) (table : SubproblemTable) (k : Name) (i : ℕ) → RisingMembers ms → StagesSaid names ms table → position (bytes_eq k) table.names ≡ Some i
    → (st : Stage) × ((get_member k ms >>= file_stage_of) ≡ Some st) × (s : Subproblem) × (slice_get table.subs i ≡ Some s) × StageSaid names st s
stage-found names ms table k i rising said e =
    let named = ap (λ ks. slice_get ks i) (sym said.keys) ∙ known-name table.names k i e in
    let st = found-at (λ k d. file_stage_of d) ms said.stages k i rising said.said named in
    let s = beside (StageSaid names) said.stages table.subs i st.0 said.fit st.1 in
    (st.0, st.2, s.0, s.1, s.2)

-- ---- nodes

-- a node by its numbers is one by its names, among states, nodes and subproblems
pub record NodeSays (states names : List Name) (subs : List Subproblem) (n : nodes.Node) (k : FileNode) : Type 0 where
  pub stage : IsSomeAnd (slice_get subs n.sub) (StageSaid states k.stage)
  pub realizations : Together (RealizationSaid k.stage.randoms) k.realizations n.weights n.values
  pub successors : Together (SuccessorSaid names) k.successors n.successors n.successor_weights
  pub stop : k.stop ≡ n.stop

-- where a path may go on, by names
record TransitionsSaid (names : List Name) (members : Members) (ending : Option Data) (t : Transitions) : Type 0 where
  successors : List FileSuccessor
  said : each_member successor_of members ≡ Some successors
  together : Together (SuccessorSaid names) successors t.nodes t.weights
  stop : or_absent 0 natural ending ≡ Some t.stop

transitions-say : (names : List Name) (n : ℕ) (members : Members) (ending : Option Data) (t : Transitions) → transitions_at names n members ending ≡ Ok t → TransitionsSaid names members ending t
unfolding transitions_at
transitions-say names n members ending t e =
    then-Ok (read_successors_at _ _ _ _) _ t e (λ arcs is_arcs e.
    then-Ok (stop_at _ _) _ t e (λ stop is_stop e.
    then-Ok (bounded_weights_at _ _ _) _ t e (λ weights is_weights e.
    let ls = successors-say part_kinds.Successor n names members arcs is_arcs in
    let same = (bounded_weights_at-Ok (at_node n) stop arcs.weights weights is_weights).0 in
    subst (TransitionsSaid names members ending) (Ok-is _ t e) (record {
      successors = ls.0;
      said = ls.1;
      together = subst (Together (SuccessorSaid names) ls.0 arcs.nodes) same ls.2;
      stop = stop-says (at_node n) ending stop is_stop;
    }))))

module _ (file : Data) (states names : List Name) (ms : Members) (table : SubproblemTable) (rising : RisingMembers ms) (stages : StagesSaid states ms table)
    (under_name : (k : Name) → under (codes "subproblems") (under k file_stage_of) file ≡ (get_member k ms >>= file_stage_of)) where
  node-says : (found next : List nodes.Node) (n : ℕ) (k : Name) (d : Data) (done : List FileNode) → read_node_at names table found n k d ≡ Ok next → AllZip (NodeSays states names table.subs) found done
      → (x : FileNode) × (file_node_of file d ≡ Some x) × AllZip (NodeSays states names table.subs) next (done ++ x ∷ [])
  unfolding read_node_at file_node_of
  node-says found next n k d done e so_far =
      then-Ok (key_at _ _) _ next e (λ name is e.
      then-Ok (object_at _ _) _ next e (λ all is e.
      then-Ok (present_at _ _) _ next e (λ inner is_inner e.
      then-Ok (string_at _ _) _ next e (λ sub_name is_sub_name e.
      then-Ok (items_at _ _) _ next e (λ items is_items e.
      then-Ok (members_at _ _) _ next e (λ successors is_successors e.
      then-Ok (known_at _ _) _ next e (λ sub is_sub e.
      then-Ok (realizations_at _ _ _) _ next e (λ realizations is_realizations e.
      then-Ok (bounded_weights_at _ _ _) _ next e (λ weights is_weights e.
      then-Ok (transitions_at _ _ _ _) _ next e (λ transitions is_transitions e.
      let st = stage-found states ms table sub_name sub rising stages (known_at-Ok _ (position (bytes_eq sub_name) table.names) sub is_sub) in
      let rs = realizations-say n (randoms_of table.subs sub) items realizations is_realizations in
      let t = transitions-say names n successors (get (codes "stop") d) transitions is_transitions in
      let randoms : randoms_of table.subs sub ≡ st.0.randoms = ap randoms_in st.3 ∙ sym st.4.randoms in
      let x : FileNode = record { stage = st.0; realizations = or_certain rs.0; successors = t.successors; stop = transitions.stop } in
      let says_stage : (under (codes "subproblem") as_str d >>= λ p. under (codes "subproblems") (under p file_stage_of) file) ≡ Some st.0 = rw (present-says _ (get (codes "subproblem") d) inner is_inner, string-says _ inner sub_name is_sub_name, under_name sub_name, st.1) refl in
      let says_realizations : (or_absent no_items as_array (get (codes "realizations") d) >>= each realization_of) ≡ Some rs.0 = rw (items-say _ _ items is_items, rs.1) refl in
      let says_successors : (or_absent no_members as_object (get (codes "successors") d) >>= each_member successor_of) ≡ Some t.successors = rw (members-say _ _ successors is_successors, t.said) refl in
      let one : NodeSays states names table.subs (record { name = name; sub = sub; weights = weights; values = realizations.values; successors = transitions.nodes; successor_weights = transitions.weights; stop = transitions.stop }) x = record {
        stage = some-value (slice_get table.subs sub) (StageSaid states st.0) st.2 st.3 st.4;
        realizations = subst (λ ws. Together (RealizationSaid st.0.randoms) (or_certain rs.0) ws realizations.values) (bounded_weights_at-Ok _ 0 realizations.weights weights is_weights).0
            (subst (λ vs. Together (RealizationSaid vs) (or_certain rs.0) realizations.weights realizations.values) randoms rs.2);
        successors = t.together;
        stop = refl;
      } in
      (x, rw (says_stage, says_realizations, says_successors, t.stop) refl, subst (λ ns. AllZip (NodeSays states names table.subs) ns (done ++ x ∷ [])) (Ok-is _ next e) (all_zip-push (NodeSays states names table.subs) found done _ x so_far one))))))))))))

  pub nodes-say : (members : Members) (ns : List nodes.Node) → nodes_at names table members ≡ Ok ns → (xs : List FileNode) × (each_member (λ k d. file_node_of file d) members ≡ Some xs) × AllZip (NodeSays states names table.subs) ns xs
  unfolding nodes_at
  nodes-say members ns e = walk_members-says (AllZip (NodeSays states names table.subs)) (read_node_at names table) (λ k d. file_node_of file d) (λ found next n k d done e so_far. node-says found next n k d done e so_far) members [] ns 0 [] e tt

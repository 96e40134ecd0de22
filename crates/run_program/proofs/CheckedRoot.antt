-- The reader of the whole and of the root refuses what the checks of the whole and of the root find first.
use Rattle.std.proofs.Common.{◌≡◌, ℕ, List, [], codes, Some, refl}
use Rattle.serde_json.specs.Data.{Data, Members}
use Rattle.serde_json.specs.Events.{members_len}
use Rattle.serde_json.specs.Find.{get_member}
use Rattle.problem.specs.declared.parts.State.{State}
use Rattle.problem.specs.declared.refusal.Part.{Part}
use Rattle.problem.specs.declared.refusal.Part.TheVariants as part_kinds
use Rattle.read_json.specs.Fields.{keys_of, place, key_at, present_at, object_at, weight_at}
use Rattle.read_json.specs.Limits.{known_at, members_at}
use Rattle.read_file.specs.Root.{root, at_state, initial_at, state_at, states_at, counts_at, root_at}
use Rattle.read_file.specs.Successors.{no_successors, successor_at, read_successors_at}
use Rattle.read_file.specs.Weights.{bounded_weights_at}
use Rattle.run_program.specs.FirstRefusal.{of_each, refusal_of}
use Rattle.run_program.specs.PresentParts as there
use Rattle.run_program.specs.CheckList.{initial_checks, start_checks, root_checks}
use Rattle.run_program.proofs.FirstRefusal.{Told, refusal-same, one-then, all-then, one-last, made, all-members}
use Rattle.run_program.proofs.PresentFacts.{state_members-is, start_value-is, start_members-is, start-is}

state-same : (found other : List State) (s : ℕ) (k : List ℕ) (d : Data) → refusal_of (state_at other s k d) ≡ refusal_of (state_at found s k d)
unfolding state_at
state-same found other s k d = refusal-same (key_at (at_state s) k) _ _ (λ name. refusal-same (initial_at (at_state s) d) _ _ (λ initial. refl))

pub successor-same : (part : Part) (a i : ℕ) (names : List (List ℕ)) (found other : there.Successors) (k : List ℕ) (d : Data)
    → refusal_of (successor_at (place part a i 0) names other k d) ≡ refusal_of (successor_at (place part a i 0) names found k d)
unfolding successor_at
successor-same part a i names found other k d = refusal-same (weight_at (place part a i 0) d) _ _ (λ weight. refusal-same (known_at (place part a i 0) _) _ _ (λ node. refl))

module _ (bytes : List ℕ) where
  states-told : (ms : Members) → there.state_members bytes ≡ Some ms → Told bytes (of_each initial_checks 0 (there.members_in (there.state_members bytes))) (states_at ms)
  unfolding states_at initial_checks
  states-told ms is =
      all-members bytes initial_checks state_at (there.state_members bytes) ms [] is (λ found s k d e. one-last bytes _ (state_at found s k d) (rw (is, e) (state-same found [] s k d)))

  start-told : (ns ms : Members) → there.table_there (codes "nodes") bytes ≡ Some ns → there.start_members bytes ≡ Some ms
      → Told bytes (of_each start_checks 0 (there.members_in (there.start_members bytes))) (read_successors_at part_kinds.Root 2 (keys_of ns) ms)
  unfolding read_successors_at start_checks
  start-told ns ms are is =
      all-members bytes start_checks (λ found i k d. successor_at (place part_kinds.Root 2 i 0) (keys_of ns) found k d) (there.start_members bytes) ms no_successors is
      (λ found i k d e. one-last bytes _ (successor_at (place part_kinds.Root 2 i 0) (keys_of ns) found k d) (rw (are, is, e) (successor-same part_kinds.Root 2 i (keys_of ns) found no_successors k d)))

  pub root-told : (ns ms : Members) → there.table_there (codes "nodes") bytes ≡ Some ns → there.table_there (codes "root") bytes ≡ Some ms → Told bytes (root_checks bytes) (root_at (keys_of ns) ms)
  unfolding root_checks root_at
  root-told ns ms are is =
      one-then bytes _ _ (members_at root (get_member (codes "state_variables") ms)) _ (rw is refl) (λ ss e1.
      one-then bytes _ _ (present_at root (get_member (codes "successors") ms)) _ (rw is refl) (λ inner e2.
      let is2 = start_value-is bytes ms is inner e2 in
      one-then bytes _ _ (object_at root inner) _ (rw is2 refl) (λ successors e3.
      let is1 = state_members-is bytes ms is ss e1 in
      let is3 = start_members-is bytes inner successors is2 e3 in
      one-then bytes _ _ (counts_at root (members_len ss) (members_len successors)) _ (rw (is1, is3) refl) (λ counted e4.
      all-then bytes (of_each initial_checks 0 (there.members_in (there.state_members bytes))) _ (states_at ss) _ (states-told ss is1) (λ qs e5.
      all-then bytes (of_each start_checks 0 (there.members_in (there.start_members bytes))) _ (read_successors_at part_kinds.Root 2 (keys_of ns) successors) _ (start-told ns successors are is3) (λ found e6.
      made bytes _ (bounded_weights_at root 0 found.weights) _ (one-last bytes _ (bounded_weights_at root 0 found.weights) (rw (start-is bytes ns successors found are is3 e6) refl))))))))

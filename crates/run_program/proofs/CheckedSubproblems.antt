-- The reader of a subproblem refuses what its checks find first.
use Rattle.std.proofs.Common.{◌≡◌, ℕ, List, [], length, nat_le, Bool, true, false, if◌then◌else◌, codes, Option, Some, None, Ok, refl}
use Rattle.serde_json.specs.Data.{Data, Members}
use Rattle.serde_json.specs.Events.{items_len}
use Rattle.serde_json.specs.Find.{get}
use Rattle.problem.specs.declared.parts.State.{State}
use Rattle.problem.specs.declared.parts.Subproblem.{Subproblem}
use Rattle.problem.specs.declared.refusal.Part.TheVariants as part_kinds
use Rattle.problem.specs.declared.refusal.RefusalKind.{RefusalKind}
use Rattle.problem.specs.declared.refusal.RefusalKind.TheVariants as kinds
use Rattle.problem.specs.declared.refusal.Place.{Place}
use Rattle.read_json.specs.Fields.{place, refuse, key_at, present_at, object_at}
use Rattle.read_stage.specs.Variables.{names_at}
use Rattle.read_stage.specs.Roles.{unused}
use Rattle.read_stage.specs.States.{are_keys, each_state_at, uses_of_states_at}
use Rattle.read_stage.specs.Randoms.{each_random_at, randoms_at}
use Rattle.read_stage.specs.Decisions.{decisions_at}
use Rattle.read_stage.specs.Objective.{objective_at}
use Rattle.read_stage.specs.Function.{function_at}
use Rattle.read_stage.specs.Sides.{set_at, shifted_at}
use Rattle.read_stage.specs.Constraint.{bounded, joined_at, constraint_at, no_constraints, constraints_at}
use Rattle.read_stage.specs.Boxes.{boxes_at}
use Rattle.read_stage.specs.StageParts.{StageParts, stage_parts_at}
use Rattle.read_stage.specs.Subproblem.{variables_at, few_rows_at, filled_at, read_subproblem_at}
use Rattle.read_file.specs.Subproblems.{another_at, listed_subproblems_at, subproblems_at}
use Rattle.run_program.specs.FirstRefusal.{of_each, nth_member, refusal_of, failing}
use Rattle.run_program.specs.PresentParts as there
use Rattle.run_program.specs.CheckList.{constraint_checks, filled_checks, subproblem_checks}
use Rattle.run_program.proofs.FirstRefusal.{Told, refusal-same, one-then, all-then, one-last, made, in-turn, tested-then, all-members, all-items}
use Rattle.run_program.proofs.PresentFacts.{entry-is, stage-is, names-is, state_uses-is, uses-is, variables-is, costs-is, constraint_items-is, constraint-is, constraints-is}

few-refuses : {A : Type 0} (test : Bool) (x : A) (kind : RefusalKind) (at : Place) → refusal_of (if test then Ok x else refuse kind at) ≡ failing test kind at
few-refuses true x kind at = refl
few-refuses false x kind at = refl

abbrev site : ℕ → ℕ → Place
site p i = place part_kinds.Constraint p i 0

joined-same : (vars : there.Variables) (at : Place) (found other : there.Constraints) (f : there.ReadFunction) (sides : there.Sides) (o : Option ℕ)
    → refusal_of (joined_at vars at other f sides o) ≡ refusal_of (joined_at vars at found f sides o)
unfolding joined_at
joined-same vars at found other f sides (Some v) = refl
joined-same vars at found other f sides None = refusal-same (shifted_at at f.constant sides) _ _ (λ shifted. refl)

constraint-same : (vars : there.Variables) (p : ℕ) (found other : there.Constraints) (i : ℕ) (d : Data) → refusal_of (constraint_at vars p other i d) ≡ refusal_of (constraint_at vars p found i d)
unfolding constraint_at
constraint-same vars p found other i d =
    refusal-same (present_at (site p i) (get (codes "function") d)) _ _ (λ inner.
    refusal-same (object_at (site p i) inner) _ _ (λ members.
    refusal-same (present_at (site p i) (get (codes "set") d)) _ _ (λ other_value.
    refusal-same (object_at (site p i) other_value) _ _ (λ others.
    refusal-same (function_at vars.names _ inner) _ _ (λ f.
    refusal-same (set_at (site p i) other_value) _ _ (λ sides. joined-same vars (site p i) found other f sides (bounded vars.uses.roles f.single)))))))

module _ (bytes : List ℕ) (p : ℕ) where
  constraints-told : (st : StageParts) (vars : there.Variables) → there.stage_there p bytes ≡ Some st → there.variables_there p bytes ≡ Some vars
      → Told bytes (of_each (constraint_checks p) 0 (there.constraint_count p bytes)) (constraints_at vars p st.constraints)
  unfolding constraints_at constraint_checks there.constraint_count
  constraints-told st vars is are =
      let them = constraint_items-is bytes p st is in
      all-items bytes (constraint_checks p) (constraint_at vars p) (there.constraint_items p bytes) st.constraints (no_constraints (length vars.names)) them
      (λ found i d e. one-last bytes _ (constraint_at vars p found i d) (rw (are, constraint-is bytes p i st.constraints d them e) (constraint-same vars p found (no_constraints (length vars.names)) i d)))

  filled-told : (st : StageParts) (vars : there.Variables) (f : there.ReadFunction) → there.stage_there p bytes ≡ Some st → there.variables_there p bytes ≡ Some vars → there.costs_there p bytes ≡ Some f
      → Told bytes (filled_checks p bytes) (filled_at vars p f st.constraints)
  unfolding filled_at filled_checks few_rows_at
  filled-told st vars f is are cost =
      all-then bytes (of_each (constraint_checks p) 0 (there.constraint_count p bytes)) _ (constraints_at vars p st.constraints) _ (constraints-told st vars is are) (λ all e1.
      let found = constraints-is bytes p st is vars all are e1 in
      tested-then bytes _ _ (nat_le (length all.rows) 200) kinds.TooLarge (place part_kinds.Subproblem p 0 0) (Ok all) _ (rw found (few-refuses (nat_le (length all.rows) 200) all kinds.TooLarge (place part_kinds.Subproblem p 0 0))) (λ few.
      made bytes _ (boxes_at vars p all.bounds f.coefficients) _ (one-last bytes _ (boxes_at vars p all.bounds f.coefficients) (rw (are, cost, found) refl))))

  pub subproblem-told : (it : List ℕ × Data) (qs : List State) → there.entry_there (codes "subproblems") p bytes ≡ Some it → there.states_there bytes ≡ Some qs
      → Told bytes (subproblem_checks bytes p) (read_subproblem_at qs p it.0 it.1)
  unfolding subproblem_checks read_subproblem_at variables_at uses_of_states_at randoms_at
  subproblem-told it qs is are =
      one-then bytes _ _ (key_at (place part_kinds.Subproblem p 0 0) it.0) _ (rw is refl) (λ name e1.
      one-then bytes _ _ (stage_parts_at (place part_kinds.Subproblem p 0 0) it.1) _ (rw is refl) (λ st e2.
      let is2 = stage-is bytes p it st is e2 in
      in-turn bytes _ (names_at p st.variables) _ _ (
      one-then bytes _ _ (names_at p st.variables) _ (rw is2 refl) (λ ns e3.
      let is3 = names-is bytes p st is2 ns e3 in
      in-turn bytes _ (uses_of_states_at qs ns p (unused (length ns)) st.states) _ _ (
      tested-then bytes _ _ (are_keys qs st.states) kinds.States (place part_kinds.Subproblem p 0 0) (each_state_at ns p (unused (length ns)) st.states) _ (rw (are, is2) refl) (λ keys.
      one-then bytes _ _ (each_state_at ns p (unused (length ns)) st.states) _ (rw (is2, is3) refl) (λ with_states e4.
      let is4 = state_uses-is bytes p st is2 ns is3 with_states e4 in
      in-turn bytes _ (randoms_at ns p with_states st.randoms) _ _ (
      tested-then bytes _ _ (nat_le (items_len st.randoms) 50) kinds.TooLarge (place part_kinds.Subproblem p 0 0) (each_random_at ns p with_states st.randoms) _ (rw is2 refl) (λ few.
      one-then bytes _ _ (each_random_at ns p with_states st.randoms) _ (rw (is2, is3, is4) refl) (λ used e5.
      let is5 = uses-is bytes p st is2 ns is3 with_states used is4 e5 in
      in-turn bytes _ (decisions_at p used.roles) _ _ (
      one-then bytes _ _ (decisions_at p used.roles) _ (rw is5 refl) (λ ds e6.
      let is6 = variables-is bytes p st is2 ns is3 used ds is5 e6 in
      one-then bytes _ _ (objective_at ns p st.objective) _ (rw (is2, is3) refl) (λ f e7.
      filled-told st _ f is2 is6 (costs-is bytes p st is2 ns is3 f e7))))))))))))))

module _ (bytes : List ℕ) where
  another-told : (qs : List State) (ms : Members) → there.states_there bytes ≡ Some qs → there.table_there (codes "subproblems") bytes ≡ Some ms → (found : List Subproblem) (p : ℕ) (k : List ℕ) (d : Data)
      → nth_member p ms ≡ Some (k, d) → Told bytes (subproblem_checks bytes p) (another_at qs found p k d)
  unfolding another_at
  another-told qs ms are is found p k d e = made bytes _ (read_subproblem_at qs p k d) _ (subproblem-told bytes p (k, d) qs (entry-is bytes (codes "subproblems") p ms (k, d) is e) are)

  pub subproblems-told : (qs : List State) (ms : Members) → there.states_there bytes ≡ Some qs → there.table_there (codes "subproblems") bytes ≡ Some ms
      → Told bytes (of_each (subproblem_checks bytes) 0 (there.entries (codes "subproblems") bytes)) (subproblems_at qs ms)
  unfolding subproblems_at listed_subproblems_at there.entries
  subproblems-told qs ms are is =
      made bytes _ (listed_subproblems_at qs ms) _ (all-members bytes (subproblem_checks bytes) (another_at qs) (there.table_there (codes "subproblems") bytes) ms [] is (another-told qs ms are is))

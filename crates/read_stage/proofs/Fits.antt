-- A subproblem that was read keeps its limits.
use Rattle.std.proofs.Common.{◌≡◌, ◌==◌, ℕ, List, length, map, Bool, true, not, nat_le, nat_lt, bytes_eq, Ok, refl, sym, ap, ap₂, subst, ◌∙◌}
use Rattle.std.specs.List.{list_all, list_any, AllByRecursion, IsDistinct}
use Rattle.std.proofs.lemmas.Bool.{eq-eqb}
use Rattle.std.proofs.lemmas.List.{length-map}
use Rattle.serde_json.specs.Data.{Data, Items}
use Rattle.problem.specs.Limits.{names_fit, bounds_fit, outs_differ, is_name, counts_fit, costs_fit, row_fits, subproblem_fits}
use Rattle.problem.specs.Distinct.{are_distinct}
use Rattle.problem.specs.declared.parts.State.{State}
use Rattle.problem.specs.declared.parts.Decision.{Decision}
use Rattle.problem.specs.declared.parts.Row.{Row}
use Rattle.problem.specs.declared.parts.Subproblem.{Subproblem}
use Rattle.read_json.specs.Fields.{key_at}
use Rattle.read_json.proofs.Accepted.{then-Ok, Ok-is, test-Ok}
use Rattle.read_stage.specs.declared.variables.Variables.{Variables}
use Rattle.read_stage.specs.declared.function.Function.{Function}
use Rattle.read_stage.specs.declared.constraint.Constraints.{Constraints}
use Rattle.read_stage.specs.Objective.{objective_at}
use Rattle.read_stage.specs.Constraint.{constraints_at}
use Rattle.read_stage.specs.Boxes.{boxes_at, given_low_bounds, given_high_bounds}
use Rattle.read_stage.specs.StageParts.{stage_parts_at}
use Rattle.read_stage.specs.Rows.{picked_coefficients}
use Rattle.read_stage.specs.Subproblem.{variables_at, decision_number_of, outs_of, few_rows_at, subproblem_from_parts, filled_at, read_subproblem_at}
use Rattle.read_stage.proofs.SmallFunctions.{IsSmall, objective_at-small}
use Rattle.read_stage.proofs.SidesFit.{AreBounds}
use Rattle.read_stage.proofs.RowsFit.{Fit, PassesRows, row_of-fits, constraints_at-fit, picked_coefficients-small, length-picked_coefficients}
use Rattle.read_stage.proofs.UsesFit.{VariablesFit, variables_at-fit}
use Rattle.read_stage.specs.Decisions.{decisions_from}
use Rattle.read_json.proofs.Distinct.{name_of, are_distinct-true, are_distinct-map, list_all-map}
use Rattle.read_stage.proofs.NamesDiffer.{all-differ}
use Rattle.read_stage.proofs.BoxesFit.{BoxesFit, bounds-fit, boxes_at-fit, given_low_bounds-bounds, given_high_bounds-bounds}

pub few_rows_at-Ok : (p : ℕ) (all found : Constraints) → few_rows_at p all ≡ Ok found → (all ≡ found) × (nat_le (length all.rows) 200 ≡ true)
unfolding few_rows_at
few_rows_at-Ok p all found e = let parts = test-Ok (nat_le (length all.rows) 200) _ _ _ found e in (Ok-is all found parts.1, parts.0)

-- the parts of what is put together
record PartsFit (states : ℕ) (vars : Variables) (costs : Function) (found : Constraints) (decisions : List Decision) : Type 0 where
  variables : VariablesFit states vars
  small : IsSmall costs
  few : nat_le (length found.rows) 200 ≡ true
  bounds : AllByRecursion AreBounds found.bounds
  rows : (test : Row → Bool) → PassesRows test vars → list_all test found.rows ≡ true
  count : length decisions ≡ length vars.decisions
  boxes : BoxesFit vars found.bounds decisions

-- the names are all different
subproblem_from_parts-names : (states : ℕ) (vars : Variables) (costs : Function) (found : Constraints) (decisions : List Decision) → PartsFit states vars costs found decisions → names_fit (subproblem_from_parts vars costs found decisions) ≡ true
unfolding names_fit subproblem_from_parts
subproblem_from_parts-names states vars costs found decisions h =
    let v = h.variables in
    let differ = all-differ vars.names vars.uses.roles vars.uses.randoms v.names v.names_differ v.roles v.random_roles v.randoms_differ in
    let name : Decision → List ℕ = λ d. d.name in
    let decisions_named : map name decisions ≡ map (name_of vars.names) (decisions_from 0 vars.uses.roles) = h.boxes.named in
    let first : are_distinct (λ (a b : Decision). bytes_eq a.name b.name) decisions ≡ true =
    sym (are_distinct-map name bytes_eq decisions) ∙ are_distinct-true bytes_eq (map name decisions) (subst (IsDistinct bytes_eq) (sym decisions_named) differ.decisions_differ) in
    let second : are_distinct bytes_eq vars.uses.names ≡ true = are_distinct-true bytes_eq vars.uses.names (subst (IsDistinct bytes_eq) (sym v.randoms_named) differ.randoms_differ) in
    let third : list_all (λ (d : Decision). not (list_any (bytes_eq d.name) vars.uses.names)) decisions ≡ true =
    sym (list_all-map name (λ n. not (list_any (bytes_eq n) vars.uses.names)) decisions)
    ∙ ap₂ (λ (rs ds : List (List ℕ)). list_all (λ n. not (list_any (bytes_eq n) rs)) ds) v.randoms_named decisions_named ∙ differ.apart in
    let fourth : list_all is_name vars.uses.names ≡ true = ap (list_all is_name) v.randoms_named ∙ differ.named in
    rw (first, second, third, fourth) refl

subproblem_from_parts-bounds : (states : ℕ) (vars : Variables) (costs : Function) (found : Constraints) (decisions : List Decision) → PartsFit states vars costs found decisions → bounds_fit (subproblem_from_parts vars costs found decisions) ≡ true
unfolding bounds_fit subproblem_from_parts
subproblem_from_parts-bounds states vars costs found decisions h = bounds-fit vars.uses.roles found.bounds vars.uses.incoming h.bounds h.boxes.in_order h.variables.incoming_roles

subproblem_from_parts-outs_differ : (states : ℕ) (vars : Variables) (costs : Function) (found : Constraints) (decisions : List Decision) → PartsFit states vars costs found decisions → outs_differ (subproblem_from_parts vars costs found decisions) ≡ true
unfolding outs_differ subproblem_from_parts
subproblem_from_parts-outs_differ states vars costs found decisions h = are_distinct-true (λ a b. a == b) (outs_of vars.decisions vars.uses.outgoing) h.variables.outs_differ

subproblem_from_parts-counts : (states : ℕ) (vars : Variables) (costs : Function) (found : Constraints) (decisions : List Decision) → PartsFit states vars costs found decisions → counts_fit states (subproblem_from_parts vars costs found decisions) ≡ true
unfolding subproblem_from_parts outs_of given_low_bounds given_high_bounds
subproblem_from_parts-counts states vars costs found decisions h =
    let v = h.variables in
    let few_decisions : nat_le (length decisions) 200 ≡ true = rw h.count v.few_decisions in
    let outs : (length (outs_of vars.decisions vars.uses.outgoing) == states) ≡ true = eq-eqb _ states (length-map vars.uses.outgoing (decision_number_of vars.decisions) ∙ v.outgoing) in
    let low : (length (given_low_bounds found.bounds vars.uses.incoming) == states) ≡ true = eq-eqb _ states (length-map vars.uses.incoming _ ∙ v.incoming) in
    let high : (length (given_high_bounds found.bounds vars.uses.incoming) == states) ≡ true = eq-eqb _ states (length-map vars.uses.incoming _ ∙ v.incoming) in
    rw (few_decisions, h.few, v.few_randoms, outs, low, high) refl

subproblem_from_parts-costs : (states : ℕ) (vars : Variables) (costs : Function) (found : Constraints) (decisions : List Decision) → PartsFit states vars costs found decisions → costs_fit states (subproblem_from_parts vars costs found decisions) ≡ true
unfolding subproblem_from_parts
subproblem_from_parts-costs states vars costs found decisions h =
    let v = h.variables in
    let xs = costs.coefficients in
    let states_many : (length (picked_coefficients vars.uses.incoming xs) == states) ≡ true = eq-eqb _ states (length-picked_coefficients vars.uses.incoming xs ∙ v.incoming) in
    let randoms_many : (length (picked_coefficients vars.uses.randoms xs) == length vars.uses.names) ≡ true = eq-eqb _ (length vars.uses.names) (length-picked_coefficients vars.uses.randoms xs ∙ v.randoms) in
    rw (h.small.constant, states_many, randoms_many, picked_coefficients-small vars.uses.incoming xs h.small.coefficients, picked_coefficients-small vars.uses.randoms xs h.small.coefficients) refl

subproblem_from_parts-rows : (states : ℕ) (vars : Variables) (costs : Function) (found : Constraints) (decisions : List Decision) → PartsFit states vars costs found decisions
    → list_all (row_fits states (subproblem_from_parts vars costs found decisions)) found.rows ≡ true
unfolding subproblem_from_parts
subproblem_from_parts-rows states vars costs found decisions h =
    let s = subproblem_from_parts vars costs found decisions in
    h.rows (row_fits states s) (λ xs sides small fits. row_of-fits states s vars xs sides (record { decisions = sym h.count; incoming = h.variables.incoming; randoms = h.variables.randoms }) small fits)

subproblem_from_parts-outs : (states : ℕ) (vars : Variables) (costs : Function) (found : Constraints) (decisions : List Decision) → PartsFit states vars costs found decisions
    → list_all (λ o. nat_lt o (length decisions)) (outs_of vars.decisions vars.uses.outgoing) ≡ true
subproblem_from_parts-outs states vars costs found decisions h = rw h.count h.variables.outs

subproblem_from_parts-fits : (states : ℕ) (vars : Variables) (costs : Function) (found : Constraints) (decisions : List Decision) → PartsFit states vars costs found decisions → subproblem_fits states (subproblem_from_parts vars costs found decisions) ≡ true
unfolding subproblem_from_parts
subproblem_from_parts-fits states vars costs found decisions h =
    rw (
      subproblem_from_parts-names states vars costs found decisions h,
      subproblem_from_parts-bounds states vars costs found decisions h,
      subproblem_from_parts-outs_differ states vars costs found decisions h,
      subproblem_from_parts-counts states vars costs found decisions h,
      subproblem_from_parts-costs states vars costs found decisions h,
      h.boxes.fit,
      subproblem_from_parts-outs states vars costs found decisions h,
      given_low_bounds-bounds found.bounds vars.uses.incoming h.bounds,
      given_high_bounds-bounds found.bounds vars.uses.incoming h.bounds,
      subproblem_from_parts-rows states vars costs found decisions h,
    ) refl

filled_at-fits : (states : ℕ) (vars : Variables) (p : ℕ) (costs : Function) (ds : Items) (s : Subproblem) → VariablesFit states vars → IsSmall costs → filled_at vars p costs ds ≡ Ok s → subproblem_fits states s ≡ true
unfolding filled_at
filled_at-fits states vars p costs ds s v small e =
    then-Ok (constraints_at _ _ _) _ s e (λ all is_all e.
    then-Ok (few_rows_at _ _) _ s e (λ found is_few e.
    then-Ok (boxes_at _ _ _ _) _ s e (λ decisions is_decisions e.
    let few = few_rows_at-Ok p all found is_few in
    let fit = λ (test : Row → Bool) (passes : PassesRows test vars). subst (Fit test) few.0 (constraints_at-fit test vars p ds all passes is_all) in
    let bounds = (fit (λ row. true) (λ xs sides small fits. refl)).bounds in
    let boxes = boxes_at-fit vars p found.bounds costs.coefficients decisions v.names v.roles bounds small.coefficients is_decisions in
    let count : length decisions ≡ length vars.decisions = sym (length-map decisions (λ (d : Decision). d.name)) ∙ ap length boxes.named ∙ length-map (decisions_from 0 vars.uses.roles) (name_of vars.names) ∙ ap length v.decisions in
    subst (λ s. subproblem_fits states s ≡ true) (Ok-is _ s e) (subproblem_from_parts-fits states vars costs found decisions (record {
      variables = v;
      small = small;
      few = subst (λ c. nat_le (length c.rows) 200 ≡ true) few.0 few.1;
      bounds = bounds;
      rows = λ test passes. (fit test passes).rows;
      count = count;
      boxes = boxes;
    })))))

-- a subproblem that the reader accepts keeps the limits
pub read_subproblem_at-fits : (states : List State) (p : ℕ) (k : List ℕ) (d : Data) (s : Subproblem) → read_subproblem_at states p k d ≡ Ok s → subproblem_fits (length states) s ≡ true
unfolding read_subproblem_at
read_subproblem_at-fits states p k d s e =
    then-Ok (key_at _ _) _ s e (λ name is e.
    then-Ok (stage_parts_at _ _) _ s e (λ stage is e.
    then-Ok (variables_at _ _ _) _ s e (λ vars is_vars e.
    then-Ok (objective_at _ _ _) _ s e (λ costs is_costs e.
    filled_at-fits (length states) vars p costs stage.constraints s (variables_at-fit states p stage vars is_vars) (objective_at-small vars.names p stage.objective costs is_costs) e))))

-- The constraints that the reader gives of a stage: the decisions, and when boxes, rows and given bounds are kept.
use Rattle.std.proofs.Common.{◌≡◌, ◌↔◌, ℕ, ◌<◌, ℤ, List, length, map, get_or, true, Some, None, Ok, refl, sym, ap, subst, ◌∙◌}
use Rattle.std.specs.List.{AllByRecursion}
use Rattle.std.proofs.lemmas.List.{length-map}
use Rattle.serde_json.specs.Data.{Items}
use Rattle.base_num.specs.Sums.{entry}
use Rattle.problem.specs.declared.parts.Decision.{Decision}
use Rattle.problem.specs.declared.parts.Row.{Row}
use Rattle.problem.specs.declared.parts.Subproblem.{Subproblem}
use Rattle.read_json.proofs.Accepted.{then-Ok, Ok-is}
use Rattle.read_json.proofs.Distinct.{name_of, each-weaker}
use Rattle.read_profile.specs.File.{Numbers, Constraint, State, Stage, each, constraint_of}
use Rattle.read_stage.specs.declared.variables.Variables.{Variables}
use Rattle.read_stage.specs.declared.function.Function as functions
use Rattle.read_stage.specs.declared.constraint.Constraints.{Constraints}
use Rattle.read_stage.specs.declared.sides.RowSides.{RowSides}
use Rattle.read_stage.specs.Rows.{picked_coefficients}
use Rattle.read_stage.specs.Decisions.{decisions_from}
use Rattle.read_stage.specs.Constraint.{constraints_at}
use Rattle.read_stage.specs.Boxes.{boxes_at, given_low_bounds, given_high_bounds}
use Rattle.read_stage.specs.Subproblem.{outs_of, few_rows_at, subproblem_from_parts, filled_at}
use Rattle.read_stage.specs.Said.{Between, decision_numbers, incoming_numbers, random_numbers, InBoxes, row_value_by_numbers, RowKept, Given}
use Rattle.read_stage.proofs.Fits.{few_rows_at-Ok}
use Rattle.read_stage.proofs.FileSplit.{Split}
use Rattle.read_stage.proofs.FileRows.{row_sum}
use Rattle.read_stage.proofs.FileKept.{Holds, Kept}
use Rattle.read_stage.proofs.FileConstraints.{constraints-say}
use Rattle.read_stage.proofs.FileBoxes.{AreBoxes, Keeps, boxes-are, boxes-named, boxes-cost, boxes-own, boxes-kept, given-kept, bounded-parts}

-- the variables, costs and constraints of a subproblem
pub record Filled (vars : Variables) (costs : functions.Function) (ds : Items) (s : Subproblem) : Type 0 where
  pub names : map (λ (d : Decision). d.name) s.decisions ≡ map (name_of vars.names) vars.decisions
  pub own : (y : Numbers) → decision_numbers s y ≡ map (entry (map y vars.names)) vars.decisions
  pub cost : map (λ (d : Decision). d.cost) s.decisions ≡ picked_coefficients vars.decisions costs.coefficients
  pub outs : s.outs ≡ outs_of vars.decisions vars.uses.outgoing
  pub randoms : s.randoms ≡ vars.uses.names
  pub constant : s.constant ≡ costs.constant
  pub state_costs : s.state_costs ≡ picked_coefficients vars.uses.incoming costs.coefficients
  pub random_costs : s.random_costs ≡ picked_coefficients vars.uses.randoms costs.coefficients
  pub constraints : List Constraint
  pub said : each constraint_of ds ≡ Some constraints
  pub kept : (st : Stage) → st.constraints ≡ constraints → ((y : Numbers) → incoming_numbers st y ≡ map (entry (map y vars.names)) vars.uses.incoming) → ((y : Numbers) → random_numbers st y ≡ map (entry (map y vars.names)) vars.uses.randoms)
      → (units : ℕ) (y : Numbers) → AllByRecursion (λ (c : Constraint). c units y ≡ true) st.constraints ↔ (InBoxes units s y × AllByRecursion (RowKept units st s y) s.rows × Given units st s y)

-- a row has the value by names
row-value-is : (vars : Variables) (st : Stage) (s : Subproblem) (y : Numbers) (row : Row) → decision_numbers s y ≡ map (entry (map y vars.names)) vars.decisions → incoming_numbers st y ≡ map (entry (map y vars.names)) vars.uses.incoming
    → random_numbers st y ≡ map (entry (map y vars.names)) vars.uses.randoms → row_value_by_numbers st s y row ≡ row_sum vars (map y vars.names) row
row-value-is vars st s y row one two three = rw (one, two, three) refl

-- the rows are kept by place where they are by names
rows-kept : (vars : Variables) (units : ℕ) (st : Stage) (s : Subproblem) (y : Numbers) (rows : List Row) → ((row : Row) → row_value_by_numbers st s y row ≡ row_sum vars (map y vars.names) row)
    → AllByRecursion (Holds vars units (map y vars.names)) rows ↔ AllByRecursion (RowKept units st s y) rows
rows-kept vars units st s y rows same = (
  each-weaker (Holds vars units (map y vars.names)) (RowKept units st s y) rows (λ row h. subst (Between units row.low row.high) (sym (same row)) h),
  each-weaker (RowKept units st s y) (Holds vars units (map y vars.names)) rows (λ row h. subst (Between units row.low row.high) (same row) h),
)

-- the given bounds by names
given-is : (vars : Variables) (units : ℕ) (st : Stage) (y : Numbers) (bounds : List RowSides) → incoming_numbers st y ≡ map (entry (map y vars.names)) vars.uses.incoming
    → ((k : ℕ) → k < length st.states → Between units (get_or (given_low_bounds bounds vars.uses.incoming) k None) (get_or (given_high_bounds bounds vars.uses.incoming) k None) (entry (incoming_numbers st y) k))
    ↔ AllByRecursion (Keeps units (map y vars.names) bounds) vars.uses.incoming
given-is vars units st y bounds are =
    let ys : List ℤ = map y vars.names in
    let kept = given-kept units ys bounds vars.uses.incoming in
    let many : length st.states ≡ length vars.uses.incoming = sym (length-map st.states (λ (t : State). y t.before)) ∙ ap length are ∙ length-map vars.uses.incoming (entry ys) in
    rw (are, many) kept

-- the constraints are kept where boxes, rows and given bounds are
stage-kept : (vars : Variables) (costs : functions.Function) (found : Constraints) (decisions : List Decision) (cs : List Constraint) (split : Split vars) → Kept vars found cs
    → AreBoxes vars.names found.bounds costs.coefficients (decisions_from 0 vars.uses.roles) decisions → (st : Stage) → st.constraints ≡ cs
    → ((y : Numbers) → decision_numbers (subproblem_from_parts vars costs found decisions) y ≡ map (entry (map y vars.names)) vars.decisions)
    → ((y : Numbers) → incoming_numbers st y ≡ map (entry (map y vars.names)) vars.uses.incoming) → ((y : Numbers) → random_numbers st y ≡ map (entry (map y vars.names)) vars.uses.randoms) → (units : ℕ) (y : Numbers)
    → AllByRecursion (λ (c : Constraint). c units y ≡ true) st.constraints
    ↔ (InBoxes units (subproblem_from_parts vars costs found decisions) y × AllByRecursion (RowKept units st (subproblem_from_parts vars costs found decisions) y) (subproblem_from_parts vars costs found decisions).rows × Given units st (subproblem_from_parts vars costs found decisions) y)
unfolding subproblem_from_parts
stage-kept vars costs found decisions cs split k boxes st are own_is before_is chances_is units y =
    let s : Subproblem = subproblem_from_parts vars costs found decisions in
    let ys : List ℤ = map y vars.names in
    let all = k.same units y in
    let parts = bounded-parts vars units ys found.bounds split (length-map vars.names y) k.free in
    let own_boxes = boxes-kept vars.names found.bounds costs.coefficients units y (decisions_from 0 vars.uses.roles) decisions boxes in
    let given = given-is vars units st y found.bounds (before_is y) in
    let rows = rows-kept vars units st s y found.rows (λ row. row-value-is vars st s y row (own_is y) (before_is y) (chances_is y)) in (
      λ h. let a = all.0 (subst (AllByRecursion (λ (c : Constraint). c units y ≡ true)) are h) in let b = parts.0 a.0 in (own_boxes.1 b.0, rows.0 a.1, given.1 b.1),
      λ h. subst (AllByRecursion (λ (c : Constraint). c units y ≡ true)) (sym are) (all.1 (parts.1 (own_boxes.0 h.0, given.0 h.2), rows.1 h.1)),
    )

-- the reader's subproblem is filled with the parts that the file says
pub filled-says : (vars : Variables) (p : ℕ) (costs : functions.Function) (ds : Items) (s : Subproblem) → Split vars → filled_at vars p costs ds ≡ Ok s → Filled vars costs ds s
unfolding filled_at subproblem_from_parts
filled-says vars p costs ds s split e =
    then-Ok (constraints_at _ _ _) _ s e (λ all is_all e.
    then-Ok (few_rows_at _ _) _ s e (λ found is_few e.
    then-Ok (boxes_at _ _ _ _) _ s e (λ decisions is_decisions e.
    subst (Filled vars costs ds) (Ok-is _ s e) (filled all found decisions is_all (few_rows_at-Ok p all found is_few).0 (boxes-are vars p found.bounds costs.coefficients decisions split.long is_decisions)))))
  where
    filled : (all found : Constraints) (decisions : List Decision) → constraints_at vars p ds ≡ Ok all → all ≡ found → AreBoxes vars.names found.bounds costs.coefficients (decisions_from 0 vars.uses.roles) decisions
        → Filled vars costs ds (subproblem_from_parts vars costs found decisions)
    filled all found decisions is_all same boxes =
        let said = constraints-say vars split p ds found (is_all ∙ ap Ok same) in
        let vs = sym split.decisions in
        let own_is : (y : Numbers) → decision_numbers (subproblem_from_parts vars costs found decisions) y ≡ map (entry (map y vars.names)) vars.decisions = λ y. boxes-own vars.names found.bounds costs.coefficients y _ decisions boxes ∙ ap (map (entry (map y vars.names))) vs in
        record {
          names = boxes-named vars.names found.bounds costs.coefficients _ decisions boxes ∙ ap (map (name_of vars.names)) vs;
          own = own_is;
          cost = boxes-cost vars.names found.bounds costs.coefficients _ decisions boxes ∙ ap (λ ws. picked_coefficients ws costs.coefficients) vs;
          outs = refl;
          randoms = refl;
          constant = refl;
          state_costs = refl;
          random_costs = refl;
          constraints = said.0;
          said = said.1;
          kept = λ st are before_is chances_is units y. stage-kept vars costs found decisions said.0 split said.2 boxes st are own_is before_is chances_is units y;
        }

-- The reader's answer on the subproblem.
use Rattle.std.proofs.Common.{◌≡◌, ℕ, zero, suc, ◌*◌, ◌≤◌, pos, List, [], ◌∷◌, ◌++◌, map, codes, replicate, Some, Result, Ok, Err, refl, arith}
use Rattle.std.specs.List.{flat_map}
use Rattle.std.specs.Prelude.{⊤}
use Rattle.problem.specs.declared.parts.State.{State}
use Rattle.problem.specs.declared.parts.Decision.{Decision}
use Rattle.problem.specs.declared.parts.Subproblem.{Subproblem}
use Rattle.problem.specs.declared.refusal.Refusal.{Refusal}
use Rattle.base_graph.specs.Paths.{numbers}
use Rattle.read_json.specs.Fields as fields
use Rattle.read_json.specs.Limits as limits
use Rattle.read_json.specs.Steps.{walk_members, walk_items, walk_list}
use Rattle.read_stage.specs.Boxes as boxes
use Rattle.read_stage.specs.Constraint as constraint
use Rattle.read_stage.specs.Decisions as decisions
use Rattle.read_stage.specs.Function as function
use Rattle.read_stage.specs.Objective as objective
use Rattle.read_stage.specs.Randoms as randoms
use Rattle.read_stage.specs.Roles as roles
use Rattle.read_stage.specs.Rows as rows
use Rattle.read_stage.specs.Sides as sides
use Rattle.read_stage.specs.StageParts as parts
use Rattle.read_stage.specs.States as states
use Rattle.read_stage.specs.Variables as variables
use Rattle.read_stage.specs.Subproblem.{variables_at, decision_number_of, outs_of, few_rows_at, subproblem_from_parts, filled_at, read_subproblem_at}
use Rattle.hydro_form.specs.Stage as forms
use Rattle.hydro_gen.specs.Names.{reservoir_name}
use Rattle.hydro_gen.specs.Stage as stage

abbrev pub state_list : ℕ → List State
state_list count = map (λ j. record { name = stage.reservoir_state_name j; initial = pos 50 }) (numbers count)

abbrev no_subproblem : Subproblem
no_subproblem = record { decisions = []; outs = []; randoms = []; rows = []; constant = pos 0; state_costs = []; random_costs = []; low = []; high = [] }

abbrev or_none : Result Subproblem Refusal → Subproblem
or_none (Ok s) = s
or_none (Err e) = no_subproblem

unfoldable pub sub : ℕ → Subproblem
sub count = or_none (read_subproblem_at (state_list count) 0 (codes "p") (stage.generated_subproblem count))

-- the definitions that unfold to compute the reader on the subproblem
unfoldable reading : ⊤
unfolding sub read_subproblem_at variables_at decision_number_of outs_of few_rows_at subproblem_from_parts filled_at walk_members walk_items walk_list fields.whole_at fields.key_at fields.present_at fields.object_at fields.array_at fields.string_at limits.name_at limits.limited_at limits.known_at limits.members_at limits.items_at boxes.bound_at boxes.decision_at boxes.incoming_at boxes.box_at boxes.variable_box_at boxes.boxes_at boxes.given_low_bounds boxes.given_high_bounds constraint.narrowed constraint.bounded constraint.joined_at constraint.constraint_at constraint.constraints_at decisions.decisions_at function.variable_function_at function.raised function.term_at function.terms_at function.constant_at function.coefficient_at function.coefficients_at function.affine_function_at function.function_at objective.costs_at objective.objective_at randoms.random_at randoms.each_random_at randoms.randoms_at roles.taken_at rows.picked_coefficients rows.row_of sides.ordered_at sides.side_at sides.equal_at sides.greater_at sides.less_at sides.interval_at sides.set_at sides.shifted_side_at sides.shifted_at parts.array_under parts.object_under parts.stage_parts_at states.uses_of_state_at states.each_state_at states.uses_of_states_at variables.variable_at variables.names_at forms.variable forms.term forms.affine forms.equal_to forms.row forms.single forms.interval forms.variable_bound forms.least_sum forms.state_between forms.program_form forms.subproblem_form stage.reservoir_variables stage.generated_variables stage.from_above stage.balance_terms stage.power_terms stage.reservoir_bounds stage.generated_constraints stage.generated_objective stage.generated_program stage.generated_subproblem reservoir_name
reading = tt

-- ---- the subproblem that is read

abbrev pub decision : List ℕ → ℕ → ℕ → Decision
decision name high cost = record { name = name; low = pos 0; high = pos high; cost = pos cost }

abbrev pub decision_list : ℕ → List Decision
decision_list count =
    flat_map (λ j. decision (stage.outgoing j) 100 0 ∷ decision (stage.turbined j) 30 0 ∷ decision (stage.spilled j) 10000 0 ∷ []) (numbers count)
    ++ decision (codes "g") (10 * count) 5 ∷ decision (codes "h") (10 * count) 20 ∷ decision (codes "k") (40 * count) 200 ∷ []

abbrev pub form : ℕ → Subproblem
form count = record {
  decisions = decision_list count;
  outs = map (λ j. 3 * j) (numbers count);
  randoms = map stage.inflow_name (numbers count);
  rows = (sub count).rows;
  constant = pos 0;
  state_costs = replicate count (pos 0);
  random_costs = replicate count (pos 0);
  low = replicate count (Some (pos 0));
  high = replicate count (Some (pos 100));
}

-- a property of each number from 1 to 10
pub each : (P : ℕ → Type 0) → P 1 → P 2 → P 3 → P 4 → P 5 → P 6 → P 7 → P 8 → P 9 → P 10 → (n : ℕ) → 1 ≤ n → n ≤ 10 → P n
each P a b c d e f g h i j zero low high = absurd (omega arith)
each P a b c d e f g h i j (suc zero) low high = a
each P a b c d e f g h i j (suc (suc zero)) low high = b
each P a b c d e f g h i j (suc (suc (suc zero))) low high = c
each P a b c d e f g h i j (suc (suc (suc (suc zero)))) low high = d
each P a b c d e f g h i j (suc (suc (suc (suc (suc zero))))) low high = e
each P a b c d e f g h i j (suc (suc (suc (suc (suc (suc zero)))))) low high = f
each P a b c d e f g h i j (suc (suc (suc (suc (suc (suc (suc zero))))))) low high = g
each P a b c d e f g h i j (suc (suc (suc (suc (suc (suc (suc (suc zero)))))))) low high = h
each P a b c d e f g h i j (suc (suc (suc (suc (suc (suc (suc (suc (suc zero))))))))) low high = i
each P a b c d e f g h i j (suc (suc (suc (suc (suc (suc (suc (suc (suc (suc zero)))))))))) low high = j
each P a b c d e f g h i j (suc (suc (suc (suc (suc (suc (suc (suc (suc (suc (suc n))))))))))) low high = absurd (omega arith)

abbrev Reads : ℕ → Type 0
Reads count = read_subproblem_at (state_list count) 0 (codes "p") (stage.generated_subproblem count) ≡ Ok (form count)

reads1 : Reads 1
unfolding reading
reads1 = refl

reads2 : Reads 2
unfolding reading
reads2 = refl

reads3 : Reads 3
unfolding reading
reads3 = refl

reads4 : Reads 4
unfolding reading
reads4 = refl

reads5 : Reads 5
unfolding reading
reads5 = refl

reads6 : Reads 6
unfolding reading
reads6 = refl

reads7 : Reads 7
unfolding reading
reads7 = refl

reads8 : Reads 8
unfolding reading
reads8 = refl

reads9 : Reads 9
unfolding reading
reads9 = refl

reads10 : Reads 10
unfolding reading
reads10 = refl

pub subproblem_read : (count : ℕ) → 1 ≤ count → count ≤ 10 → read_subproblem_at (state_list count) 0 (codes "p") (stage.generated_subproblem count) ≡ Ok (form count)
subproblem_read = each Reads reads1 reads2 reads3 reads4 reads5 reads6 reads7 reads8 reads9 reads10

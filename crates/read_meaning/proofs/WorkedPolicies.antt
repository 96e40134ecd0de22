-- Policies of small files, what they cost, and files and numbers without one.
use Rattle.std.proofs.Common.{◌≡◌, ℕ, ℤ, pos, ◌*ℤ◌, ◌≤ℤ◌, List, ◌∷◌, true, All, Option, Some, None, IsSomeAnd, option_map, codes, refl, sym, subst, arith}
use Rattle.std.specs.Float.Numeral.{scan_numeral}
use Rattle.std.specs.List.{AllByRecursion}
use Rattle.std.proofs.lemmas.Bool.{true≢false}
use Rattle.std.proofs.lemmas.Int.{ints}
use Rattle.std.proofs.lemmas.List.Elements.{All-from_recursion, recursion_from_All}
use Rattle.json.specs.Json.{value, items, members}
use Rattle.json.specs.Lex.{lex, punctuate}
use Rattle.json.specs.Text.{content}
use Rattle.json.specs.Word.{word, after_number}
use Rattle.serde_json.specs.Read.{number_of}
use Rattle.theory.specs.Fraction.{Fraction, ◌≤ᶠ◌}
use Rattle.read_profile.specs.File.{Name, Numbers, Constraint, State, Stage, FileRealization, File, variable_of, affine_of, function_of, set_of, constraint_of, objective_of, file_stage_of, file_node_of, file_of, file_at}
use Rattle.read_profile.specs.Examples.{one_reservoir, with_stop, without_values}
use Rattle.read_meaning.specs.Meaning.{Volumes, in_units, Satisfies, no_branch, branch, Plans, no_plan, plan, IsPolicy, file_policy_cost, IsBound}
use Rattle.read_meaning.specs.Examples.{numbers_example, halves, one_higher, to_the_stop}

satisfies : (units : ℕ) (st : Stage) (r : FileRealization) (x : Volumes) (y : Numbers) → AllByRecursion (λ (t : State). x t.name ≡ Some (y t.before)) st.states → AllByRecursion (λ (v : Name). in_units units (r.support v) ≡ Some (y v)) st.randoms
    → AllByRecursion (λ (c : Constraint). c units y ≡ true) st.constraints → Satisfies units st r x y
satisfies units st r x y a b c = record { states = All-from_recursion _ st.states a; randoms = All-from_recursion _ st.randoms b; constraints = All-from_recursion _ st.constraints c }

pub policy : IsSomeAnd (file_at one_reservoir) (λ f. IsPolicy f 2 halves)
unfolding number_of value items members content lex punctuate word after_number scan_numeral file_at file_of file_node_of file_stage_of objective_of constraint_of function_of variable_of affine_of set_of one_reservoir halves numbers_example
policy = (
  (
    satisfies _ _ _ _ _ (refl, tt) (refl, tt) (refl, (refl, (refl, (refl, (refl, (refl, tt)))))),
    tt,
    (satisfies _ _ _ _ _ (refl, tt) (refl, tt) (refl, (refl, (refl, (refl, (refl, (refl, tt)))))), tt, tt),
  ),
  tt,
)

pub cost_of_policy : option_map (λ (f : File). file_policy_cost f 2 halves) (file_at one_reservoir) ≡ Some (record { up = pos 130; under = 8 })
unfolding number_of value items members content lex punctuate word after_number scan_numeral file_at file_of file_node_of file_stage_of objective_of constraint_of function_of variable_of affine_of set_of one_reservoir halves numbers_example
cost_of_policy = refl

first_constraint : (units : ℕ) (st : Stage) (r : FileRealization) (x : Volumes) (y : Numbers) (c : Constraint) (cs : List Constraint) → st.constraints ≡ c ∷ cs → Satisfies units st r x y → c units y ≡ true
first_constraint units st r x y c cs e h = (recursion_from_All (λ (c : Constraint). c units y ≡ true) (c ∷ cs) (subst (All (λ (c : Constraint). c units y ≡ true)) e h.constraints)).0

-- v_out one higher breaks the balance of water
pub no_policy : IsSomeAnd (file_at one_reservoir) (λ f. IsPolicy f 2 one_higher) → ⊥
unfolding number_of value items members content lex punctuate word after_number scan_numeral file_at file_of file_node_of file_stage_of objective_of constraint_of function_of variable_of affine_of set_of one_reservoir one_higher numbers_example
no_policy h = true≢false (sym (first_constraint 2 _ _ _ (numbers_example (pos 2) (pos 2) (pos 9) (pos 9)) _ _ refl h.0.0))

first_state : (units : ℕ) (st : Stage) (r : FileRealization) (x : Volumes) (y : Numbers) (t : State) (ts : List State) → st.states ≡ t ∷ ts → Satisfies units st r x y → x t.name ≡ Some (y t.before)
first_state units st r x y t ts e h = (recursion_from_All (λ (t : State). x t.name ≡ Some (y t.before)) (t ∷ ts) (subst (All (λ (t : State). x t.name ≡ Some (y t.before))) e h.states)).0

-- these numbers in whole units are another state
pub other_units : IsSomeAnd (file_at one_reservoir) (λ f. IsPolicy f 1 halves) → ⊥
unfolding number_of value items members content lex punctuate word after_number scan_numeral file_at file_of file_node_of file_stage_of objective_of constraint_of function_of variable_of affine_of set_of one_reservoir halves numbers_example
other_units h = absurd (four_not_eight (first_state 1 _ _ _ (numbers_example (pos 2) (pos 1) (pos 9) (pos 9)) _ _ refl h.0.0))
  where
    four_not_eight : ◌≡◌ {A = Option ℤ} (Some (pos 4)) (Some (pos 8)) → ⊥
    four_not_eight e = cc

-- more than the cost of a policy is no bound
below : (a b : Fraction) → a ≤ᶠ b → (a.up *ℤ pos b.under) ≤ℤ (b.up *ℤ pos a.under)
below a b h = h.crossed

pub no_bound : IsSomeAnd (file_at one_reservoir) (λ f. IsBound f (pos 272629761) → ⊥)
unfolding number_of value items members content lex punctuate word after_number scan_numeral file_at file_of file_node_of file_stage_of objective_of constraint_of function_of variable_of affine_of set_of one_reservoir halves numbers_example
no_bound h = too_much (h 2 halves (omega arith) policy)
  where
    too_much : record { up = pos 272629761; under = 16777216 } ≤ᶠ record { up = pos 130; under = 8 } → ⊥
    too_much h = let c : pos 2181038088 ≤ℤ pos 2181038080 = h.crossed in absurd (omega (arith, ints))

pub stopped_policy : IsSomeAnd (file_at with_stop) (λ f. IsPolicy f 1 to_the_stop)
unfolding number_of value items members content lex punctuate word after_number scan_numeral file_at file_of file_node_of file_stage_of objective_of constraint_of function_of variable_of affine_of set_of with_stop to_the_stop
stopped_policy = (
  (satisfies _ _ _ _ _ tt (refl, tt) tt, ((satisfies _ _ _ _ _ tt (refl, tt) tt, tt, tt), ((satisfies _ _ _ _ _ tt (refl, tt) tt, tt, tt), tt)), tt),
  tt,
)

pub stopped_cost : option_map (λ (f : File). file_policy_cost f 1 to_the_stop) (file_at with_stop) ≡ Some (record { up = pos 130; under = 10 })
unfolding number_of value items members content lex punctuate word after_number scan_numeral file_at file_of file_node_of file_stage_of objective_of constraint_of function_of variable_of affine_of set_of with_stop to_the_stop
stopped_cost = refl

-- a random variable without a value
first_random : (units : ℕ) (st : Stage) (r : FileRealization) (x : Volumes) (y : Numbers) (v : Name) (vs : List Name) → st.randoms ≡ v ∷ vs → Satisfies units st r x y → in_units units (r.support v) ≡ Some (y v)
first_random units st r x y v vs e h = (recursion_from_All (λ (v : Name). in_units units (r.support v) ≡ Some (y v)) (v ∷ vs) (subst (All (λ (v : Name). in_units units (r.support v) ≡ Some (y v))) e h.randoms)).0

pub no_value : (units : ℕ) (ps : Plans) → IsSomeAnd (file_at without_values) (λ f. IsPolicy f units ps) → ⊥
unfolding number_of value items members content lex punctuate word after_number scan_numeral file_at file_of file_node_of file_stage_of objective_of constraint_of function_of variable_of affine_of set_of without_values
no_value units no_plan h = h
no_value units (plan no_branch ps) h = h.0
no_value units (plan (branch y qs p) ps) h = nothing (first_random units _ _ _ y _ _ refl h.0.0)
  where
    nothing : ◌≡◌ {A = Option ℤ} None (Some (y (codes "w"))) → ⊥
    nothing e = cc

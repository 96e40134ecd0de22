-- Rows on functions, constraints, objectives, stages and realizations.
use Rattle.std.proofs.Common.{◌≡◌, pos, negsuc, [], ◌∷◌, map, true, false, Some, None, option_map, codes, bytes_eq, if◌then◌else◌, refl}
use Rattle.std.specs.Float.{float_is_finite}
use Rattle.std.specs.Float.Numeral.{scan_numeral}
use lib.Ieee.{round}
use Rattle.json.specs.Json.{value, items, members}
use Rattle.json.specs.Lex.{lex, punctuate}
use Rattle.json.specs.Text.{content}
use Rattle.json.specs.Word.{word, after_number}
use Rattle.serde_json.specs.Read.{number_of}
use Rattle.read_profile.specs.File.{Function, Constraint, Stage, FileRealization, under, whole_number, variable_of, affine_of, function_of, set_of, constraint_of, objective_of, file_stage_of, realization_of, file_node_of, file_of, file_at}
use Rattle.read_profile.specs.Examples.{said, valued, tested, name_twice, no_constant, no_terms, with_point, two_names, quadratic, equal_to_example, greater_than, less_than, interval_example, crossed_interval, integer_example, with_constant, least_example, greatest_example, feasible, two_bounds, only_w, key_twice}

pub both_terms_count : valued 2 (pos 5) (said function_of name_twice) ≡ Some (pos 29)
unfolding said number_of value items members content lex punctuate word after_number scan_numeral file_at file_of file_node_of file_stage_of objective_of constraint_of function_of variable_of affine_of set_of name_twice
both_terms_count = refl

pub constant_absent : valued 2 (pos 5) (said function_of no_constant) ≡ Some (negsuc 14)
unfolding said number_of value items members content lex punctuate word after_number scan_numeral file_at file_of file_node_of file_stage_of objective_of constraint_of function_of variable_of affine_of set_of no_constant
constant_absent = refl

pub terms_absent : valued 2 (pos 5) (said function_of no_terms) ≡ None
unfolding said number_of value items members content lex punctuate word after_number scan_numeral file_at file_of file_node_of file_stage_of objective_of constraint_of function_of variable_of affine_of set_of no_terms
terms_absent = refl

pub point : valued 2 (pos 5) (said function_of with_point) ≡ None
unfolding said number_of value items members content lex punctuate word after_number scan_numeral file_at file_of file_node_of file_stage_of objective_of constraint_of function_of variable_of affine_of set_of with_point float_is_finite round
point = refl

pub other_function : valued 2 (pos 5) (said function_of quadratic) ≡ None
unfolding said number_of value items members content lex punctuate word after_number scan_numeral file_at file_of file_node_of file_stage_of objective_of constraint_of function_of variable_of affine_of set_of quadratic
other_function = refl

pub name_first : option_map (λ (f : Function). f 1 (λ v. if bytes_eq v (codes "a") then pos 1 else pos 2)) (said function_of two_names) ≡ Some (pos 1)
unfolding said number_of value items members content lex punctuate word after_number scan_numeral file_at file_of file_node_of file_stage_of objective_of constraint_of function_of variable_of affine_of set_of two_names
name_first = refl

pub equal : tested 2 (pos 5 ∷ pos 6 ∷ pos 7 ∷ []) (said constraint_of equal_to_example) ≡ Some (false ∷ true ∷ false ∷ [])
unfolding said number_of value items members content lex punctuate word after_number scan_numeral file_at file_of file_node_of file_stage_of objective_of constraint_of function_of variable_of affine_of set_of equal_to_example
equal = refl

pub greater : tested 2 (pos 5 ∷ pos 6 ∷ pos 7 ∷ []) (said constraint_of greater_than) ≡ Some (false ∷ true ∷ true ∷ [])
unfolding said number_of value items members content lex punctuate word after_number scan_numeral file_at file_of file_node_of file_stage_of objective_of constraint_of function_of variable_of affine_of set_of greater_than
greater = refl

pub less : tested 2 (pos 5 ∷ pos 6 ∷ pos 7 ∷ []) (said constraint_of less_than) ≡ Some (true ∷ true ∷ false ∷ [])
unfolding said number_of value items members content lex punctuate word after_number scan_numeral file_at file_of file_node_of file_stage_of objective_of constraint_of function_of variable_of affine_of set_of less_than
less = refl

pub between : tested 2 (pos 5 ∷ pos 6 ∷ pos 10 ∷ pos 11 ∷ []) (said constraint_of interval_example) ≡ Some (false ∷ true ∷ true ∷ false ∷ [])
unfolding said number_of value items members content lex punctuate word after_number scan_numeral file_at file_of file_node_of file_stage_of objective_of constraint_of function_of variable_of affine_of set_of interval_example
between = refl

pub crossed : tested 1 (pos 2 ∷ pos 3 ∷ pos 4 ∷ pos 5 ∷ pos 6 ∷ []) (said constraint_of crossed_interval) ≡ Some (false ∷ false ∷ false ∷ false ∷ false ∷ [])
unfolding said number_of value items members content lex punctuate word after_number scan_numeral file_at file_of file_node_of file_stage_of objective_of constraint_of function_of variable_of affine_of set_of crossed_interval
crossed = refl

pub other_set : tested 1 (pos 0 ∷ []) (said constraint_of integer_example) ≡ None
unfolding said number_of value items members content lex punctuate word after_number scan_numeral file_at file_of file_node_of file_stage_of objective_of constraint_of function_of variable_of affine_of set_of integer_example
other_set = refl

pub constant_counts : tested 2 (pos 3 ∷ pos 4 ∷ []) (said constraint_of with_constant) ≡ Some (false ∷ true ∷ [])
unfolding said number_of value items members content lex punctuate word after_number scan_numeral file_at file_of file_node_of file_stage_of objective_of constraint_of function_of variable_of affine_of set_of with_constant
constant_counts = refl

pub sense_min : valued 2 (pos 5) (said objective_of least_example) ≡ Some (pos 5)
unfolding said number_of value items members content lex punctuate word after_number scan_numeral file_at file_of file_node_of file_stage_of objective_of constraint_of function_of variable_of affine_of set_of least_example
sense_min = refl

pub sense_max : valued 2 (pos 5) (said objective_of greatest_example) ≡ None
unfolding said number_of value items members content lex punctuate word after_number scan_numeral file_at file_of file_node_of file_stage_of objective_of constraint_of function_of variable_of affine_of set_of greatest_example
sense_max = refl

pub sense_feasibility : valued 2 (pos 5) (said objective_of feasible) ≡ Some (pos 0)
unfolding said number_of value items members content lex punctuate word after_number scan_numeral file_at file_of file_node_of file_stage_of objective_of constraint_of function_of variable_of affine_of set_of feasible
sense_feasibility = refl

pub bounds_of_stage : option_map (λ (t : Stage). map (λ (c : Constraint). c 1 (λ v. pos 6)) t.constraints) (said file_stage_of two_bounds) ≡ Some (true ∷ false ∷ [])
unfolding said number_of value items members content lex punctuate word after_number scan_numeral file_at file_of file_node_of file_stage_of objective_of constraint_of function_of variable_of affine_of set_of two_bounds
bounds_of_stage = refl

pub states_of_stage : option_map (λ (t : Stage). t.states) (said file_stage_of two_bounds) ≡ Some (record { name = codes "v"; before = codes "v_in"; after = codes "v_out" } ∷ [])
unfolding said number_of value items members content lex punctuate word after_number scan_numeral file_at file_of file_node_of file_stage_of objective_of constraint_of function_of variable_of affine_of set_of two_bounds
states_of_stage = refl

pub randoms_of_stage : option_map (λ (t : Stage). t.randoms) (said file_stage_of two_bounds) ≡ Some (codes "w" ∷ [])
unfolding said number_of value items members content lex punctuate word after_number scan_numeral file_at file_of file_node_of file_stage_of objective_of constraint_of function_of variable_of affine_of set_of two_bounds
randoms_of_stage = refl

pub weight : option_map (λ (r : FileRealization). r.weight) (said realization_of only_w) ≡ Some 2
unfolding said number_of value items members content lex punctuate word after_number scan_numeral file_at file_of file_node_of file_stage_of objective_of constraint_of function_of variable_of affine_of set_of only_w
weight = refl

pub value_given : option_map (λ (r : FileRealization). r.support (codes "w")) (said realization_of only_w) ≡ Some (Some (pos 3))
unfolding said number_of value items members content lex punctuate word after_number scan_numeral file_at file_of file_node_of file_stage_of objective_of constraint_of function_of variable_of affine_of set_of only_w
value_given = refl

pub value_left_out : option_map (λ (r : FileRealization). r.support (codes "u")) (said realization_of only_w) ≡ Some None
unfolding said number_of value items members content lex punctuate word after_number scan_numeral file_at file_of file_node_of file_stage_of objective_of constraint_of function_of variable_of affine_of set_of only_w
value_left_out = refl

pub last_of_equal_keys : said (under (codes "a") whole_number) key_twice ≡ Some (pos 2)
unfolding said number_of value items members content lex punctuate word after_number scan_numeral file_at file_of file_node_of file_stage_of objective_of constraint_of function_of variable_of affine_of set_of key_twice
last_of_equal_keys = refl

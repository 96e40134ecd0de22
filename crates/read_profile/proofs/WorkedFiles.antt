-- Rows on whole files.
use Rattle.std.proofs.Common.{◌≡◌, pos, [], ◌∷◌, map, Some, None, option_map, codes, refl}
use Rattle.std.specs.Float.Numeral.{scan_numeral}
use Rattle.json.specs.Json.{value, items, members}
use Rattle.json.specs.Lex.{lex, punctuate}
use Rattle.json.specs.Text.{content}
use Rattle.json.specs.Word.{word, after_number}
use Rattle.serde_json.specs.Read.{number_of}
use Rattle.read_profile.specs.File.{FileRealization, File, variable_of, affine_of, function_of, set_of, constraint_of, objective_of, file_stage_of, file_node_of, file_of, file_at}
use Rattle.read_profile.specs.Examples.{said, at_node_example, one_reservoir, with_stop, without_values, of_version_2}

pub initial_value : option_map (λ (f : File). f.initial (codes "v")) (file_at one_reservoir) ≡ Some (Some (pos 4))
unfolding said number_of value items members content lex punctuate word after_number scan_numeral file_at file_of file_node_of file_stage_of objective_of constraint_of function_of variable_of affine_of set_of one_reservoir
initial_value = refl

pub names_in_order : option_map (λ (f : File). f.names) (file_at with_stop) ≡ Some (codes "a" ∷ codes "b" ∷ codes "c" ∷ [])
unfolding said number_of value items members content lex punctuate word after_number scan_numeral file_at file_of file_node_of file_stage_of objective_of constraint_of function_of variable_of affine_of set_of with_stop
names_in_order = refl

pub successors_in_order : at_node_example (λ n. n.successors) (codes "a") (file_at with_stop) ≡ Some (record { node = codes "b"; weight = 3 } ∷ record { node = codes "c"; weight = 5 } ∷ [])
unfolding said number_of value items members content lex punctuate word after_number scan_numeral file_at file_of file_node_of file_stage_of objective_of constraint_of function_of variable_of affine_of set_of with_stop
successors_in_order = refl

pub stop : at_node_example (λ n. n.stop) (codes "a") (file_at with_stop) ≡ Some 2
unfolding said number_of value items members content lex punctuate word after_number scan_numeral file_at file_of file_node_of file_stage_of objective_of constraint_of function_of variable_of affine_of set_of with_stop
stop = refl

pub no_stop : at_node_example (λ n. n.stop) (codes "b") (file_at with_stop) ≡ Some 0
unfolding said number_of value items members content lex punctuate word after_number scan_numeral file_at file_of file_node_of file_stage_of objective_of constraint_of function_of variable_of affine_of set_of with_stop
no_stop = refl

pub no_realizations : at_node_example (λ n. map (λ (r : FileRealization). r.weight) n.realizations) (codes "a") (file_at without_values) ≡ Some (1 ∷ [])
unfolding said number_of value items members content lex punctuate word after_number scan_numeral file_at file_of file_node_of file_stage_of objective_of constraint_of function_of variable_of affine_of set_of without_values
no_realizations = refl

pub no_values : at_node_example (λ n. map (λ (r : FileRealization). r.support (codes "w")) n.realizations) (codes "a") (file_at without_values) ≡ Some (None ∷ [])
unfolding said number_of value items members content lex punctuate word after_number scan_numeral file_at file_of file_node_of file_stage_of objective_of constraint_of function_of variable_of affine_of set_of without_values
no_values = refl

pub other_version : option_map (λ (f : File). f.names) (file_at of_version_2) ≡ None
unfolding said number_of value items members content lex punctuate word after_number scan_numeral file_at file_of file_node_of file_stage_of objective_of constraint_of function_of variable_of affine_of set_of of_version_2
other_version = refl

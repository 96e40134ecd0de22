-- The names in a generated problem.
use Rattle.std.specs.Prelude.{ℕ, ◌+◌, ◌/◌, ◌%◌, List, [], ◌∷◌, ◌++◌, codes}
use Rattle.hydro_form.specs.Listed.{digit}

-- the name of a quantity of the reservoir j: a letter and two digits, from 01
unfoldable pub reservoir_name : List ℕ → ℕ → List ℕ
reservoir_name letter j = letter ++ digit ((j + 1) / 10) ∷ digit (j + 1) ∷ []

-- the nodes are numbered stage by stage, the dry one first
abbrev pub stage_number : ℕ → ℕ
stage_number i = i / 2 + 1

-- 0 of a dry node, 1 of a wet one
abbrev pub kind_of : ℕ → ℕ
kind_of i = i % 2

-- the name of the node i: the stage with three digits, from 001, and the kind
unfoldable pub generated_node_name : ℕ → List ℕ
generated_node_name i = codes "s" ++ digit (stage_number i / 100) ∷ digit (stage_number i / 10) ∷ digit (stage_number i) ∷ [] ++ codes "w" ++ digit (kind_of i) ∷ []

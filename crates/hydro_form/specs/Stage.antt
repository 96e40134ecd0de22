-- The parts of a subproblem in a problem file, as JSON values. Keys are in byte order.
use Rattle.std.specs.Prelude.{ℕ, ℤ, List, codes}
use Rattle.serde_json.specs.Data.{Data, string, array, object, Members, no_members, member}
use Rattle.serde_json.specs.View.{items_of}
use Rattle.hydro_form.specs.Listed.{whole_data, integer}

unfoldable pub variable : List ℕ → Data
variable name = object (member (codes "name") (string name) no_members)

unfoldable pub term : ℤ → List ℕ → Data
term coefficient name = object (member (codes "coefficient") (integer coefficient) (member (codes "variable") (string name) no_members))

-- the sum of the terms
unfoldable pub affine : List Data → Data
affine terms = object (member (codes "constant") (whole_data 0) (member (codes "terms") (array (items_of terms)) (member (codes "type") (string (codes "ScalarAffineFunction")) no_members)))

unfoldable pub equal_to : ℕ → Data
equal_to value = object (member (codes "type") (string (codes "EqualTo")) (member (codes "value") (whole_data value) no_members))

-- the sum of the terms is the value
unfoldable pub row : ℕ → List Data → Data
row value terms = object (member (codes "function") (affine terms) (member (codes "set") (equal_to value) no_members))

unfoldable pub single : List ℕ → Data
single name = object (member (codes "name") (string name) (member (codes "type") (string (codes "Variable")) no_members))

unfoldable pub interval : ℤ → ℤ → Data
interval low high = object (member (codes "lower") (integer low) (member (codes "type") (string (codes "Interval")) (member (codes "upper") (integer high) no_members)))

-- the variable is from low to high
unfoldable pub variable_bound : List ℕ → ℤ → ℤ → Data
variable_bound name low high = object (member (codes "function") (single name) (member (codes "set") (interval low high) no_members))

-- the least sum of the terms is sought
unfoldable pub least_sum : List Data → Data
least_sum terms = object (member (codes "function") (affine terms) (member (codes "sense") (string (codes "min")) no_members))

-- a state goes from one variable to the other
unfoldable pub state_between : List ℕ → List ℕ → Data
state_between incoming outgoing = object (member (codes "in") (string incoming) (member (codes "out") (string outgoing) no_members))

unfoldable pub program_form : List Data → Data → List Data → Data
program_form constraints objective variables = object (
    member (codes "constraints") (array (items_of constraints))
    (member (codes "objective") objective
    (member (codes "variables") (array (items_of variables)) no_members)))

unfoldable pub subproblem_form : List Data → Members → Data → Data
subproblem_form randoms states program = object (
    member (codes "random_variables") (array (items_of randoms))
    (member (codes "state_variables") (object states)
    (member (codes "subproblem") program no_members)))

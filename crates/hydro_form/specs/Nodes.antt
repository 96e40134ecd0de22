-- The nodes of a problem file and the file as a whole, as JSON values. Keys are in byte order. All nodes have the one subproblem `p`.
use Rattle.std.specs.Prelude.{ℕ, List, codes}
use Rattle.serde_json.specs.Data.{Data, string, array, object, Members, no_members, member}
use Rattle.serde_json.specs.View.{items_of}
use Rattle.hydro_form.specs.Listed.{whole_data}

unfoldable pub realization_form : ℕ → Members → Data
realization_form weight support = object (member (codes "probability") (whole_data weight) (member (codes "support") (object support) no_members))

unfoldable pub node_form : List Data → Members → Data
node_form realizations successors = object (
    member (codes "realizations") (array (items_of realizations))
    (member (codes "subproblem") (string (codes "p"))
    (member (codes "successors") (object successors) no_members)))

unfoldable pub root_of : Members → Members → Data
root_of initial successors = object (member (codes "state_variables") (object initial) (member (codes "successors") (object successors) no_members))

unfoldable pub version : Data
version = object (member (codes "major") (whole_data 1) (member (codes "minor") (whole_data 0) no_members))

unfoldable pub problem_form : Members → Data → Data → Data
problem_form nodes root subproblem = object (
    member (codes "nodes") (object nodes)
    (member (codes "root") root
    (member (codes "subproblems") (object (member (codes "p") subproblem no_members))
    (member (codes "version") version no_members))))

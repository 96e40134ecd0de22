-- Plans of the small files of read_profile's examples.
use Rattle.std.specs.Prelude.{ℤ, pos, codes, bytes_eq, if◌then◌else◌}
use Rattle.read_profile.specs.File.{Numbers}
use Rattle.read_meaning.specs.Meaning.{FilePlan, no_branch, branch, Plans, no_plan, plan}

-- ---- the reservoir, in halves

-- 4 come in, and w; v is kept, q is turbined, g is bought
unfoldable pub numbers_example : ℤ → ℤ → ℤ → ℤ → Numbers
numbers_example w v q g k =
    if bytes_eq k (codes "v_in") then pos 8 else (if bytes_eq k (codes "w") then w else (if bytes_eq k (codes "v_out") then v else (if bytes_eq k (codes "q") then q else g)))

-- at inflow 1 a half is kept, 4 and a half are turbined and 4 and a half are bought; at inflow 3 seven are turbined and two are bought
unfoldable pub halves : Plans
halves = plan (branch (numbers_example (pos 2) (pos 1) (pos 9) (pos 9)) no_plan (branch (numbers_example (pos 6) (pos 0) (pos 14) (pos 4)) no_plan no_branch)) no_plan

-- a half more is kept than there is
unfoldable pub one_higher : Plans
one_higher = plan (branch (numbers_example (pos 2) (pos 2) (pos 9) (pos 9)) no_plan (branch (numbers_example (pos 6) (pos 0) (pos 14) (pos 4)) no_plan no_branch)) no_plan

-- ---- the file with a stop weight

-- w is the realized value
abbrev one_node : ℤ → Plans → FilePlan
one_node w ps = branch (λ v. w) ps no_branch

unfoldable pub to_the_stop : Plans
to_the_stop = plan (one_node (pos 0) (plan (one_node (pos 10) no_plan) (plan (one_node (pos 20) no_plan) no_plan))) no_plan

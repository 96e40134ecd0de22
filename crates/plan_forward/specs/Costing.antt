-- The residual of a row at given decisions, and the cost of a stage, both at scale S.
use Rattle.std.specs.Prelude.{ℤ, pos, neg_ℤ, ◌-ℤ◌, ◌*ℤ◌, int_lt, List, map, Option, Some, None, if◌then◌else◌}
use Rattle.std.specs.Int.{int_max}
use Rattle.problem.specs.declared.parts.Row.{Row}
use Rattle.theory.specs.Problem.{S, Node}
use Rattle.theory.specs.Tree.{left_side}
use Rattle.theory.specs.Cost.{stage}

-- how far the left side lies below the lower side of a row, where there is one
abbrev pub below_low : Option ℤ → ℤ → ℤ
below_low None left = pos 0
below_low (Some low) left = pos S *ℤ low -ℤ left

-- and how far above the upper side
abbrev pub above_high : Option ℤ → ℤ → ℤ
above_high None left = pos 0
above_high (Some high) left = left -ℤ pos S *ℤ high

-- Residual: by how much the decisions u at the state x and the values omega miss a row, and 0 where they meet it
unfoldable pub residual_of : Row → List ℤ → List ℤ → List ℤ → ℤ
residual_of row u x values =
    let left : ℤ = left_side S values x u row in
    int_max (int_max (below_low row.low left) (above_high row.high left)) (pos 0)

-- Miss: by how much a row's left side has to rise to meet it, negative where it has to fall, and 0 where it meets it
unfoldable pub miss_of : Row → List ℤ → List ℤ → List ℤ → ℤ
miss_of row u x values =
    let left : ℤ = left_side S values x u row in
    if int_lt (pos 0) (below_low row.low left) then below_low row.low left else neg_ℤ (int_max (above_high row.high left) (pos 0))

-- one for each row of a node
abbrev pub residuals_of : Node → List ℤ → List ℤ → List ℤ → List ℤ
residuals_of n u x values = map (λ (row : Row). residual_of row u x values) n.rows

-- and the miss of each
abbrev pub misses_of : Node → List ℤ → List ℤ → List ℤ → List ℤ
misses_of n u x values = map (λ (row : Row). miss_of row u x values) n.rows

-- StageCost: S*constant + S*(f·omega) + c·u + e·x
unfoldable pub stage_cost_of : Node → List ℤ → List ℤ → List ℤ → ℤ
stage_cost_of n u x values = (stage S n values x u).up

-- Bounds of variables.
use Rattle.std.specs.Prelude.{ℕ, ℤ, false, get_or, Option, Some, None, if◌then◌else◌}
use Rattle.base_num.specs.Sums.{entry}
use Rattle.lp_table.specs.declared.table.Bounds.{Bounds}

-- the lower bound of a variable, none where there is none
abbrev pub low_bound_of : Bounds → ℕ → Option ℤ
low_bound_of b v = if get_or b.has_low v false then Some (entry b.lows v) else None

-- the upper bound of a variable, none where there is none
abbrev pub up_bound_of : Bounds → ℕ → Option ℤ
up_bound_of b v = if get_or b.has_up v false then Some (entry b.ups v) else None

-- WideBounds of variables.
use Rattle.std.specs.Prelude.{ℕ, ℤ, false, get_or, Option, Some, None, if◌then◌else◌}
use Rattle.base_num.specs.Sums.{entry}
use Rattle.lp_wide_table.specs.declared.table.WideBounds.{WideBounds}

-- the lower bound of a variable, none where there is none
abbrev pub wide_low_bound_of : WideBounds → ℕ → Option ℤ
wide_low_bound_of b v = if get_or b.has_low v false then Some (entry b.lows v) else None

-- the upper bound of a variable, none where there is none
abbrev pub wide_up_bound_of : WideBounds → ℕ → Option ℤ
wide_up_bound_of b v = if get_or b.has_up v false then Some (entry b.ups v) else None

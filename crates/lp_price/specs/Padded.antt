-- Duals of the first rows, and 0 for all others.
use Rattle.std.specs.Prelude.{ℕ, ◌-◌, List, ◌++◌, length, replicate}
use Rattle.lp_program.specs.declared.fixed.Fx.{Fx}
use Rattle.lp_program.specs.Numbers.{zero_fx}

-- the numbers, and behind them as many times 0 as make them n
abbrev pub padded_numbers : ℕ → List Fx → List Fx
padded_numbers n ys = ys ++ replicate (n - length ys) zero_fx

-- Numbers in fixed point: whole numbers of 128 bits, each for itself over 2^32.
use Rattle.std.specs.Prelude.{zero, suc, ◌^◌, ℤ, pos, negsuc, ◌+ℤ◌, ◌-ℤ◌, ◌*ℤ◌, neg_ℤ, Bool, nat_lt, Option, Some, None, if◌then◌else◌}
use Rattle.std.specs.Option.{option_map}
use Rattle.base_num.specs.Sums.{floor_over}
use Rattle.lp_program.specs.declared.fixed.Fx.{Fx}

-- from -2^127 to 2^127 - 1; negsuc n is -(n + 1)
abbrev pub fits : ℤ → Bool
fits (pos n) = nat_lt n (2 ^ 127)
fits (negsuc n) = nat_lt n (2 ^ 127)

-- the number where 128 bits hold it
abbrev pub held : ℤ → Option ℤ
held z = if fits z then Some z else None

-- a / b, rounded down, for b other than 0
abbrev pub floor_by : ℤ → ℤ → ℤ
floor_by a (pos b) = floor_over a b
floor_by a (negsuc b) = floor_over (neg_ℤ a) (suc b)

-- a / b, rounded down, where b is not 0 and 128 bits hold it
abbrev pub quotient : ℤ → ℤ → Option ℤ
quotient a (pos zero) = None
quotient a (pos (suc b)) = held (floor_by a (pos (suc b)))
quotient a (negsuc b) = held (floor_by a (negsuc b))

-- the number in fixed point that is kept as z
abbrev pub number : ℤ → Fx
number z = record { 0 = z }

abbrev pub zero_fx : Fx
zero_fx = number (pos 0)

-- the number that stands for 1
abbrev pub one : Fx
one = number (pos (2 ^ 32))

unfoldable pub plus_fixed : Fx → Fx → Option Fx
plus_fixed a b = option_map number (held (a.0 +ℤ b.0))

unfoldable pub minus : Fx → Fx → Option Fx
minus a b = option_map number (held (a.0 -ℤ b.0))

-- the product over 2^32, rounded down; none where the product of the two as they stand leaves 128 bits
unfoldable pub times_fixed : Fx → Fx → Option Fx
times_fixed a b = option_map number (if fits (a.0 *ℤ b.0) then Some (floor_over (a.0 *ℤ b.0) (2 ^ 32)) else None)

-- the quotient of a times 2^32, rounded down; none where b is 0 or a result leaves 128 bits
unfoldable pub over_fixed : Fx → Fx → Option Fx
over_fixed a b = option_map number (if fits (a.0 *ℤ pos (2 ^ 32)) then quotient (a.0 *ℤ pos (2 ^ 32)) b.0 else None)

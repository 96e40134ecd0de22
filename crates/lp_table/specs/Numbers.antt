-- Scaled numbers.
use Rattle.std.specs.Prelude.{ℕ, suc, ◌^◌, ◌-◌, ℤ, pos, negsuc, ◌+ℤ◌, ◌*ℤ◌, nat_lt, nat_le, nat_abs, Option, Some, None, if◌then◌else◌}
use Rattle.std.specs.Int.Count.{count_leading_zeros}
use Rattle.std.specs.Int.Signed.{quot_z}
use Rattle.base_num.specs.Sums.{floor_over}
use Rattle.lp_program.specs.Numbers.{held}

-- s / 2^40, rounded to the nearest, halves up
abbrev pub down_of : ℤ → ℤ
down_of s = floor_over (s +ℤ pos (2 ^ 39)) (2 ^ 40)

-- v, where |v| < 2^b
abbrev pub below : ℕ → ℤ → Option ℤ
below b v = if nat_lt (nat_abs v) (2 ^ b) then Some v else None

-- a cell
abbrev pub cell_of : ℤ → Option ℤ
cell_of v = below 60 v

-- a point, a bound or a side
abbrev pub quantity_of : ℤ → Option ℤ
quantity_of v = below 55 v

-- a scaled term of a row
abbrev pub coefficient_of : ℤ → Option ℤ
coefficient_of v = if nat_le (nat_abs v) (2 ^ 40) then Some v else None

-- the number of binary digits of |v|, 0 for 0, for |v| below 2^128
abbrev pub bits_of : ℤ → ℕ
bits_of v = 128 - count_leading_zeros 128 (nat_abs v)

-- a / b, rounded towards zero
abbrev pub quotient_of : ℤ → ℤ → ℤ
quotient_of a b = quot_z a b

-- v 2^k, where 128 bits hold it
unfoldable pub shift_up : ℤ → ℕ → Option ℤ
shift_up v k = held (v *ℤ pos (2 ^ k))

-- v over 2^k, rounded down
unfoldable pub shift_down : ℤ → ℕ → ℤ
shift_down v k = floor_over v (2 ^ k)

-- v 2^k, rounded down, where 128 bits hold it
abbrev pub shift_of : ℤ → ℤ → Option ℤ
shift_of v (pos k) = shift_up v k
shift_of v (negsuc k) = Some (shift_down v (suc k))

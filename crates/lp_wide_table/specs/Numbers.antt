-- Scaled numbers of 128 bits, and sums of 256.
use Rattle.std.specs.Prelude.{ℕ, suc, ◌^◌, ◌+◌, ◌-◌, ℤ, pos, negsuc, ◌+ℤ◌, ◌*ℤ◌, nat_le, Option, Some, None, if◌then◌else◌}
use Rattle.std.specs.Option.{option_map, option_and_then}
use Rattle.std.specs.Ordering.{int_eq}
use Rattle.base_num.specs.Sums.{floor_over}
use Rattle.lp_wide_table.specs.WideWhole.{held_wide}
use Rattle.lp_table.specs.Numbers.{below, bits_of}

-- a cell
abbrev pub wide_cell_of : ℤ → Option ℤ
wide_cell_of v = below 124 v

-- a point, a bound or a side
abbrev pub wide_quantity_of : ℤ → Option ℤ
wide_quantity_of v = below 110 v

-- the sum, where 256 bits hold it
abbrev pub sum_of : ℤ → ℤ → Option ℤ
sum_of a b = held_wide 255 (a +ℤ b)

-- s / 2^k, rounded to the nearest, halves up, where 256 bits hold s and half of 2^k
unfoldable pub nearest : ℤ → ℕ → Option ℤ
nearest s k = option_map (λ z. floor_over z (2 ^ k)) (sum_of s (pos (2 ^ (k - 1))))

-- s / 2^80, rounded to the nearest
abbrev pub wide_down_of : ℤ → Option ℤ
wide_down_of s = nearest s 80

-- the sum as a cell
unfoldable pub cell_sum : ℤ → ℤ → Option ℤ
cell_sum a b = option_and_then wide_cell_of (sum_of a b)

-- the sum as a point, a bound or a side
unfoldable pub value_sum : ℤ → ℤ → Option ℤ
value_sum a b = option_and_then wide_quantity_of (sum_of a b)

-- v 2^k, where v is 0 or the number and the power have at most 250 binary digits together
unfoldable pub wide_shift_up : ℤ → ℕ → Option ℤ
wide_shift_up v k =
    if int_eq v (pos 0) then Some (pos 0) else if nat_le (bits_of v + k) 250 then held_wide 255 (v *ℤ pos (2 ^ k)) else None

-- v 2^k, rounded down
abbrev pub wide_shift_of : ℤ → ℤ → Option ℤ
wide_shift_of v (pos k) = wide_shift_up v k
wide_shift_of v (negsuc k) = Some (floor_over v (2 ^ suc k))

-- Worked numbers, computed.
use Rattle.std.proofs.Common.{◌≡◌, ◌^◌, ◌+◌, ◌-◌, ◌*◌, ◌/◌, pos, negsuc, neg_ℤ, ◌+ℤ◌, ◌*ℤ◌, Some, None, refl}
use Rattle.base_num.specs.Sums.{floor_over}
use Rattle.lp_wide_table.specs.WideWhole.{held_wide, rest_over, down_of_wide, nearest_of, shift_up_wide, shift_of_wide, inverse_of_wide}

-- a product that 128 bits do not hold
long_product : held_wide 127 (pos (2 ^ 100) *ℤ negsuc (2 ^ 90 - 1)) ≡ None
long_product = refl

wide_product : held_wide 255 (pos (2 ^ 100) *ℤ negsuc (2 ^ 90 - 1)) ≡ Some (neg_ℤ (pos (2 ^ 190)))
wide_product = refl

-- the greatest product of two numbers of 128 bits
greatest_product : held_wide 255 (negsuc (2 ^ 127 - 1) *ℤ negsuc (2 ^ 127 - 1)) ≡ Some (pos (2 ^ 254))
greatest_product = refl

-- both ends
greatest : held_wide 255 (pos (2 ^ 255 - 1)) ≡ Some (pos (2 ^ 255 - 1))
greatest = refl

past_the_greatest : held_wide 255 (pos (2 ^ 255 - 1) +ℤ pos 1) ≡ None
past_the_greatest = refl

least : held_wide 255 (negsuc (2 ^ 255 - 1)) ≡ Some (neg_ℤ (pos (2 ^ 255)))
least = refl

past_the_least : held_wide 255 (negsuc (2 ^ 255 - 1) +ℤ negsuc 0) ≡ None
past_the_least = refl

-- rounded down, below 0 as well
floor_below_zero : floor_over (negsuc 0) (2 ^ 80) ≡ negsuc 0
floor_below_zero = refl

floor_of_a_large_number : floor_over (neg_ℤ (pos (2 ^ 200 + 1))) (2 ^ 80) ≡ neg_ℤ (pos (2 ^ 120 + 1))
floor_of_a_large_number = refl

rest_below_zero : rest_over (negsuc 0) (2 ^ 64) ≡ 2 ^ 64 - 1
rest_below_zero = refl

-- inverses, rounded towards zero
inverse_of_a_power : inverse_of_wide (pos (2 ^ 80)) ≡ pos (2 ^ 125)
unfolding lib.Count.count_leading_zeros
inverse_of_a_power = refl

inverse_of_three : inverse_of_wide (pos 3) ≡ pos (2 ^ 126 / 3)
unfolding lib.Count.count_leading_zeros
inverse_of_three = refl

inverse_below_zero : inverse_of_wide (negsuc 4) ≡ neg_ℤ (pos (2 ^ 127 / 5))
unfolding lib.Count.count_leading_zeros
inverse_below_zero = refl

-- rounded to the nearest, halves up
half_below_zero : down_of_wide (neg_ℤ (pos (2 ^ 79))) ≡ pos 0
half_below_zero = refl

more_than_half_below_zero : down_of_wide (neg_ℤ (pos (2 ^ 79 + 1))) ≡ negsuc 0
more_than_half_below_zero = refl

half_up : nearest_of (pos (3 * 2 ^ 167)) 168 ≡ pos 2
half_up = refl

-- numbers times powers of 2
most_digits : shift_of_wide (negsuc 4) (pos 247) ≡ Some (neg_ℤ (pos (5 * 2 ^ 247)))
unfolding lib.Count.count_leading_zeros shift_up_wide
most_digits = refl

one_digit_more : shift_of_wide (negsuc 4) (pos 248) ≡ None
unfolding lib.Count.count_leading_zeros shift_up_wide
one_digit_more = refl

none_stays_none : shift_of_wide (pos 0) (pos 2700) ≡ Some (pos 0)
unfolding shift_up_wide
none_stays_none = refl

shifted_far_down : shift_of_wide (negsuc 4) (negsuc 2699) ≡ Some (negsuc 0)
shifted_far_down = refl

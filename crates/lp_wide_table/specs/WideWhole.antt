-- Whole numbers of 256 bits.
use Rattle.std.specs.Prelude.{ℕ, suc, ◌+◌, ◌-◌, ◌^◌, ℤ, pos, negsuc, ◌+ℤ◌, ◌-ℤ◌, ◌*ℤ◌, nat_abs, Bool, nat_lt, nat_le, Option, Some, None, if◌then◌else◌}
use Rattle.std.specs.Int.Count.{count_leading_zeros}
use Rattle.std.specs.Int.Signed.{quot_z}
use Rattle.std.specs.Ordering.{int_eq}
use Rattle.base_num.specs.Sums.{floor_over}

-- a sign and k binary digits hold z: from -2^k to 2^k - 1; negsuc n is -(n + 1)
abbrev pub fits_wide : ℕ → ℤ → Bool
fits_wide k (pos n) = nat_lt n (2 ^ k)
fits_wide k (negsuc n) = nat_lt n (2 ^ k)

-- the number where a sign and k binary digits hold it
abbrev pub held_wide : ℕ → ℤ → Option ℤ
held_wide k z = if fits_wide k z then Some z else None

-- the excess of z over the greatest multiple of d that is at most z
abbrev pub rest_over : ℤ → ℕ → ℕ
rest_over z d = nat_abs (z -ℤ pos d *ℤ floor_over z d)

-- s / 2^k, rounded to the nearest, halves up
abbrev pub nearest_of : ℤ → ℕ → ℤ
nearest_of s k = floor_over (s +ℤ pos (2 ^ (k - 1))) (2 ^ k)

-- s / 2^80, rounded to the nearest, halves up
abbrev pub down_of_wide : ℤ → ℤ
down_of_wide s = nearest_of s 80

-- the number of binary digits of |v|, 0 for 0, for |v| below 2^128
abbrev pub bits_of_wide : ℤ → ℕ
bits_of_wide v = 128 - count_leading_zeros 128 (nat_abs v)

-- a / b, rounded towards zero
abbrev pub quotient_of_wide : ℤ → ℤ → ℤ
quotient_of_wide a b = quot_z a b

-- 1/p at scale 2^(bits(p) + 124)
abbrev pub inverse_of_wide : ℤ → ℤ
inverse_of_wide p = quotient_of_wide (pos (2 ^ (bits_of_wide p + 124))) p

-- v 2^k, where the digits of v and k are at most 250 together; 0 stays 0
unfoldable pub shift_up_wide : ℤ → ℕ → Option ℤ
shift_up_wide v k = if int_eq v (pos 0) then Some (pos 0) else if nat_le (bits_of_wide v + k) 250 then Some (v *ℤ pos (2 ^ k)) else None

-- v 2^k, rounded down
abbrev pub shift_of_wide : ℤ → ℤ → Option ℤ
shift_of_wide v (pos k) = shift_up_wide v k
shift_of_wide v (negsuc k) = Some (floor_over v (2 ^ suc k))

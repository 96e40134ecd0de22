-- Worked products and quotients, computed.
use Rattle.std.proofs.Common.{◌≡◌, pos, negsuc, Some, None, refl}
use Rattle.lp_program.specs.Numbers.{number, times_fixed, over_fixed}

-- rounded down, below 0 as well
small_product : times_fixed (number (negsuc 0)) (number (pos 1)) ≡ Some (number (negsuc 0))
unfolding times_fixed
small_product = refl

no_quotient : over_fixed (number (pos 1)) (number (pos 0)) ≡ None
unfolding over_fixed
no_quotient = refl

-- -1 / 3, and 1 / -3
thirds_below : over_fixed (number (negsuc 0)) (number (pos 3)) ≡ Some (number (negsuc 1431655765))
unfolding over_fixed
thirds_below = refl

thirds_above : over_fixed (number (pos 1)) (number (negsuc 2)) ≡ Some (number (negsuc 1431655765))
unfolding over_fixed
thirds_above = refl

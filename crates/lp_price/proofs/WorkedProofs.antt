-- Worked multipliers, and the proofs that they give.
use Rattle.std.proofs.Common.{◌≡◌, ℕ, ◌^◌, ◌*◌, pos, negsuc, true, false, List, [], ◌∷◌, ◌++◌, map, Some, None, refl}
use Rattle.lp_program.specs.declared.fixed.Fx.{Fx}
use Rattle.lp_program.specs.declared.programs.Column.{Column}
use Rattle.lp_program.specs.declared.programs.LpRow.{LpRow}
use Rattle.lp_program.specs.declared.programs.Program.{Program}
use Rattle.lp_program.specs.Numbers.{number, zero_fx, one, plus_fixed, minus}
use Rattle.lp_price.specs.Proves.{side_of_multiplier, clipped, lowered, whole_times, lessened, term_step, row_step, weights_of, side_step, box_step, excess_of, proves}

abbrev units : ℕ → Fx
units n = number (pos (n * 2 ^ 32))

abbrev whole : ℕ → Fx
whole n = number (pos n)

-- -(n + 1)
abbrev below_zero : ℕ → Fx
below_zero n = number (negsuc n)

abbrev box : ℕ → ℕ → Column
box low high = record { low = units low; high = units high; cost = zero_fx }

-- boxes [0, top]; x0 + 3 x1 >= 20 and x0 + x1 <= 6
abbrev pub crossed : ℕ → ℕ → Program
crossed first second =
    record {
      columns = box 0 first ∷ box 0 second ∷ [];
      rows = record { low = Some (units 20); high = None; terms = (0, one) ∷ (1, units 3) ∷ [] } ∷ record { low = None; high = Some (units 6); terms = (0, one) ∷ (1, one) ∷ [] } ∷ [];
      decisions = 2;
      own = 2;
    }

-- 20 exceeds 5 + 3 * 4
narrow_boxes : proves (crossed 5 4) (whole 1 ∷ zero_fx ∷ []) ≡ true
unfolding plus_fixed minus side_of_multiplier lowered whole_times lessened term_step row_step weights_of side_step box_step excess_of proves
narrow_boxes = refl

-- it does not exceed 50 + 3 * 50
wide_boxes : proves (crossed 50 50) (whole 1 ∷ zero_fx ∷ []) ≡ false
unfolding plus_fixed minus side_of_multiplier lowered whole_times lessened term_step row_step weights_of side_step box_step excess_of proves
wide_boxes = refl

-- by both rows, 20 - 3 * 6 > 0
both_rows : proves (crossed 50 50) (whole 1 ∷ below_zero 2 ∷ []) ≡ true
unfolding plus_fixed minus side_of_multiplier lowered whole_times lessened term_step row_step weights_of side_step box_step excess_of proves
both_rows = refl

-- 19 * 20 - 45 * 6 - 12 * 50 is below 0, but the multipliers over 16 are 1 and -3
not_as_they_stand : excess_of (crossed 50 50) (whole 19 ∷ below_zero 44 ∷ []) 0 ≡ Some (below_zero 8220835839)
unfolding plus_fixed minus side_of_multiplier lowered whole_times lessened term_step row_step weights_of side_step box_step excess_of
not_as_they_stand = refl

over_16 : excess_of (crossed 50 50) (whole 19 ∷ below_zero 44 ∷ []) 4 ≡ Some (whole 33554432)
unfolding plus_fixed minus side_of_multiplier lowered whole_times lessened term_step row_step weights_of side_step box_step excess_of
over_16 = refl

by_a_scale : proves (crossed 50 50) (whole 19 ∷ below_zero 44 ∷ []) ≡ true
unfolding plus_fixed minus side_of_multiplier lowered whole_times lessened term_step row_step weights_of side_step box_step excess_of proves
by_a_scale = refl

-- rows of cuts are not looked at
abbrev one_own : Program
one_own = record (crossed 50 50) { own = 1 }

first_alone : proves one_own (whole 1 ∷ below_zero 2 ∷ []) ≡ false
unfolding plus_fixed minus side_of_multiplier lowered whole_times lessened term_step row_step weights_of side_step box_step excess_of proves
first_alone = refl

-- x >= 2^63, in a box up to 2^62
abbrev far : Program
far = record { columns = record { low = zero_fx; high = number (pos (2 ^ 94)); cost = zero_fx } ∷ []; rows = record { low = Some (number (pos (2 ^ 95))); high = None; terms = (0, one) ∷ [] } ∷ []; decisions = 1; own = 1 }

-- the product is too long
too_long : excess_of far (number (pos (2 ^ 59)) ∷ []) 16 ≡ None
unfolding plus_fixed minus side_of_multiplier lowered whole_times lessened term_step row_step weights_of side_step box_step excess_of
too_long = refl

-- by a smaller multiplier it is not
by_a_smaller : proves far (number (pos (2 ^ 59)) ∷ []) ≡ true
unfolding plus_fixed minus side_of_multiplier lowered whole_times lessened term_step row_step weights_of side_step box_step excess_of proves
by_a_smaller = refl

-- the second row has no low, the first no high
abbrev sided : List Fx
sided = map (λ (r : LpRow). clipped r one) (crossed 5 4).rows ++ map (λ (r : LpRow). clipped r (below_zero 0)) (crossed 5 4).rows

clipped_rows : sided ≡ one ∷ zero_fx ∷ zero_fx ∷ below_zero 0 ∷ []
unfolding side_of_multiplier
clipped_rows = refl

-- Proofs by whole multipliers of own rows that no point in the boxes of decisions keeps these rows (Farkas, 1902).
use Rattle.std.specs.Prelude.{ℕ, zero, suc, ◌^◌, ◌*◌, pos, ◌*ℤ◌, Bool, false, not, ◌&&◌, ◌||◌, List, length, take, replicate, get_or, slice_get, slice_set, Option, Some, None, int_lt, if◌then◌else◌}
use Rattle.std.specs.Option.{option_map, option_and_then}
use Rattle.base_num.specs.Sums.{floor_over}
use Rattle.lp_program.specs.declared.fixed.Fx.{Fx}
use Rattle.lp_program.specs.declared.programs.Column.{Column}
use Rattle.lp_program.specs.declared.programs.LpRow.{LpRow}
use Rattle.lp_program.specs.declared.programs.Program.{Program}
use Rattle.lp_program.specs.Numbers.{number, zero_fx, held, plus_fixed, minus}
use Rattle.lp_price.specs.Folds.{fold_from}

abbrev pub own_rows : Program → List LpRow
own_rows lp = take lp.own lp.rows

abbrev pub decisions_of : Program → List Column
decisions_of lp = take lp.decisions lp.columns

-- the side of a row that a multiplier speaks of: the low of a positive one, the high of a negative one
unfoldable pub side_of_multiplier : LpRow → Fx → Option Fx
side_of_multiplier r y = if int_lt (pos 0) y.0 then r.low else (if int_lt y.0 (pos 0) then r.high else None)

-- the multiplier, where the row has the side that it speaks of
abbrev pub with_side : Fx → Option Fx → Fx
with_side y None = zero_fx
with_side y (Some side) = y

-- 0 for a positive multiplier without a low and for a negative one without a high
abbrev pub clipped : LpRow → Fx → Fx
clipped r y = with_side y (side_of_multiplier r y)

-- number k of some numbers, 0 where it is missing
abbrev pub number_or_zero : List Fx → ℕ → Fx
number_or_zero xs k = get_or xs k zero_fx

-- x over 2^k, rounded down
unfoldable pub lowered : ℕ → Fx → Fx
lowered k x = number (floor_over x.0 (2 ^ k))

-- the product of two numbers as they stand, where 128 bits hold it
unfoldable pub whole_times : Fx → Fx → Option Fx
whole_times x y = option_map number (held (x.0 *ℤ y.0))

-- z_i: the multiplier of row i over 2^k, rounded down and clipped
abbrev pub multiplier_at : ℕ → List Fx → ℕ → LpRow → Fx
multiplier_at k ys i r = clipped r (lowered k (number_or_zero ys i))

-- the weight of a term's column less the term's whole factor times z; none where a result is absent
unfoldable pub lessened : Fx → List Fx → ℕ × Fx → Option Fx
lessened z ws t = option_and_then (λ p. option_and_then (λ w. minus w p) (slice_get ws t.0)) (whole_times z (lowered 32 t.1))

-- the weights of the columns, of which that of the term's column is lessened
unfoldable pub term_step : Fx → List Fx → ℕ × Fx → Option (List Fx)
term_step z ws t = option_map (λ w. slice_set ws t.0 w) (lessened z ws t)

abbrev pub is_multiplier_zero : Fx → Bool
is_multiplier_zero z = not (int_lt (pos 0) z.0) && not (int_lt z.0 (pos 0))

-- the weights less all terms of a row in order, where z is not 0
abbrev pub weights_less_terms : Fx → List Fx → LpRow → Option (List Fx)
weights_less_terms z ws r = if is_multiplier_zero z then Some ws else fold_from (λ k vs t. term_step z vs t) 0 ws r.terms

unfoldable pub row_step : ℕ → List Fx → ℕ → List Fx → LpRow → Option (List Fx)
row_step k ys i ws r = weights_less_terms (multiplier_at k ys i r) ws r

-- 0 for each column
abbrev pub no_weights : List Column → List Fx
no_weights columns = replicate (length columns) zero_fx

-- w_j = - (the sum of the terms a_ij z_i), one subtraction at a time
unfoldable pub weights_of : Program → List Fx → ℕ → Option (List Fx)
weights_of lp ys k = fold_from (row_step k ys) 0 (no_weights lp.columns) (own_rows lp)

abbrev pub with_product : Fx → Fx → Option Fx → Option Fx
with_product s z None = Some s
with_product s z (Some side) = option_and_then (plus_fixed s) (whole_times z (lowered 8 side))

-- s + z times the side that it speaks of
abbrev pub with_row_side : Fx → Fx → LpRow → Option Fx
with_row_side s z r = with_product s z (side_of_multiplier r z)

unfoldable pub side_step : ℕ → List Fx → ℕ → Fx → LpRow → Option Fx
side_step k ys i s r = with_row_side s (multiplier_at k ys i r) r

abbrev pub lesser : Fx → Fx → Fx
lesser x y = if int_lt x.0 y.0 then x else y

-- s + the least of w times a point of the box
unfoldable pub box_step : List Fx → ℕ → Fx → Column → Option Fx
box_step ws j s c = option_and_then (λ low. option_and_then (λ high. plus_fixed s (lesser low high)) (whole_times (number_or_zero ws j) (lowered 8 c.high))) (whole_times (number_or_zero ws j) (lowered 8 c.low))

-- W: the least that the rows demand, less the most that the decisions give
unfoldable pub excess_of : Program → List Fx → ℕ → Option Fx
excess_of lp ys k = option_and_then (λ ws. option_and_then (λ s. fold_from (box_step ws) 0 s (decisions_of lp)) (fold_from (side_step k ys) 0 zero_fx (own_rows lp))) (weights_of lp ys k)

abbrev pub is_above_zero : Option Fx → Bool
is_above_zero None = false
is_above_zero (Some w) = int_lt (pos 0) w.0

-- tell whether W is above 0 by one of so many scales, the first of which is 2^(4 n), and each 2^4 times the one before
abbrev pub proves_from : Program → List Fx → ℕ → ℕ → Bool
proves_from lp ys n zero = false
proves_from lp ys n (suc count) = is_above_zero (excess_of lp ys (4 * n)) || proves_from lp ys (suc n) count

-- tell whether W is above 0 for a k of 0, 4, .., 56; not where a product or a sum on the way leaves 128 bits
unfoldable pub proves : Program → List Fx → Bool
proves lp ys = proves_from lp ys 0 15

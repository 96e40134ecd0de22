-- The slacks that were not basic leave the basis of a clean table again.
use Rattle.std.specs.Prelude.{ℕ, zero, suc, ◌^◌, ℤ, Bool, true, false, ◌&&◌, List, [], ◌∷◌, length, get_or, nat_abs, is_none, Option, Some, None, nat_lt, nat_le, if◌then◌else◌}
use Rattle.std.specs.Option.{option_and_then}
use Rattle.base_num.specs.Sums.{entry}
use Rattle.lp_table.specs.declared.table.Basis.{Basis}
use Rattle.lp_table.specs.declared.table.WarmTable.{WarmTable}
use Rattle.lp_pivot.specs.Line.{line_of}
use Rattle.lp_pivot.specs.Pivot.{pivoted}

abbrev pub stands_high : Basis → Option ℕ → Bool
stands_high b None = false
stands_high b (Some j) = get_or b.high j false

-- whether a variable was not basic and stood at its upper bound
abbrev pub was_high : Basis → ℕ → Bool
was_high b v = stands_high b (get_or b.places v None)

-- whether a variable is a column that was basic
unfoldable pub was_basic : Basis → ℕ → ℕ → Bool
was_basic b columns v = nat_lt v columns && is_none (get_or b.places v None)

abbrev pub is_greater : List ℤ → ℕ → Option ℕ → Bool
is_greater line j None = true
is_greater line j (Some best) = nat_lt (nat_abs (entry line best)) (nat_abs (entry line j))

-- the better of the best place so far and place j, where v stands, which has to be a column that was basic: the greater cell, of equals the lesser place
unfoldable pub better_place : Basis → List ℤ → Option ℕ → ℕ → ℕ → Option ℕ
better_place b line best j v = if was_basic b (length line) v && is_greater line j best then Some j else best

-- the best of the best place so far and the places from j on, where the variables vs stand
abbrev pub place_from : Basis → List ℤ → Option ℕ → ℕ → List ℕ → Option ℕ
place_from b line best j [] = best
place_from b line best j (v ∷ vs) = place_from b line (better_place b line best j v) (suc j) vs

abbrev pub large_enough : List ℤ → Option ℕ → Option ℕ
large_enough line None = None
large_enough line (Some j) = if nat_le (2 ^ 24) (nat_abs (entry line j)) then Some j else None

-- the place with the greatest cell, where that is 2^24 or more
unfoldable pub best_place : Basis → List ℕ → List ℤ → Option ℕ
best_place b vs line = large_enough line (place_from b line None 0 vs)

abbrev pub by_place : Basis → WarmTable → ℕ → List ℤ → Option ℕ → Option WarmTable
by_place b t v line None = Some t
by_place b t v line (Some j) = pivoted t line v (was_high b v) j []

-- the slack v leaves, where a place is found for it; none where a number is out of range
unfoldable pub left : Basis → WarmTable → ℕ → Option WarmTable
left b t v = option_and_then (λ line. by_place b t v line (best_place b t.basis.nonbasic line)) (line_of t v)

-- the slack v leaves, where it was not basic
unfoldable pub tight : Basis → WarmTable → ℕ → Option WarmTable
tight b t v = if is_none (get_or b.places v None) then Some t else left b t v

-- so many slacks from v on leave, where they were not basic
abbrev pub tightened : Basis → WarmTable → ℕ → ℕ → Option WarmTable
tightened b t v zero = Some t
tightened b t v (suc count) = option_and_then (λ next. tightened b next (suc v) count) (tight b t v)

-- Rows of cuts that come in because the point of a table violates them: of each successor's cuts the greatest there.
use Rattle.std.specs.Prelude.{ℕ, ◌+◌, ◌-◌, ◌^◌, ◌==◌, ℤ, pos, ◌-ℤ◌, Bool, true, false, List, [], ◌∷◌, length, slice_get, Option, Some, None, int_lt, if◌then◌else◌}
use Rattle.std.specs.List.{list_any}
use Rattle.std.specs.Option.{option_and_then}
use Rattle.base_num.specs.Sums.{entry}
use Rattle.lp_program.specs.declared.programs.Program.{Program}
use Rattle.lp_table.specs.declared.table.WarmTable.{WarmTable}
use Rattle.lp_pivot.specs.Activity.{activity_of}
use Rattle.lp_scale.specs.Appending.{appended_cut}
use Rattle.lp_scan.specs.Values.{Valued, states_of, greatest_cuts}

-- the table with the rows that stayed, and whether a number left its range
pub record Scanned : Type 0 where
  pub stopped : Bool
  pub table : WarmTable

abbrev pub scanned : Bool → WarmTable → Scanned
scanned stopped t = record { stopped = stopped; table = t }

-- by the value of the last row: whether it is below its lower side by more than may be passed; not where it is no quantity
abbrev pub is_value_below : ℤ → Option ℤ → Bool
is_value_below low None = false
is_value_below low (Some x) = int_lt x (low -ℤ pos (2 ^ 12))

-- whether the point violates the last row
unfoldable pub violates_last : WarmTable → Bool
violates_last t = is_value_below (entry t.bounds.lows (length t.costs + (length t.rows - 1))) (activity_of t (length t.rows - 1))

-- the table u with the row, where the point violates that, else t
abbrev pub where_violated : WarmTable → Option WarmTable → Option WarmTable
where_violated t None = None
where_violated t (Some u) = if violates_last u then Some u else Some t

-- with the cut that is row i, where it is not in yet and the point violates it; absent where a number leaves its range
unfoldable pub with_asked : Program → ℕ → WarmTable → Option WarmTable
with_asked lp i t =
    if list_any (λ k. k == i) t.cuts.rows then Some t else option_and_then (λ r. where_violated t (appended_cut i r t)) (slice_get lp.rows i)

abbrev pub asked_by : Program → Option Valued → WarmTable → Option WarmTable
asked_by lp None t = Some t
asked_by lp (Some v) t = with_asked lp v.0 t

abbrev pub on_with : (WarmTable → Scanned) → WarmTable → Option WarmTable → Scanned
on_with next t None = scanned true t
on_with next t (Some u) = next u

-- with the cuts asked for, one after the other, until a number leaves its range
abbrev pub asked_for : Program → List (Option Valued) → WarmTable → Scanned
asked_for lp [] t = scanned false t
asked_for lp (b ∷ bs) t = on_with (asked_for lp bs) t (asked_by lp b t)

abbrev pub by_states : Program → WarmTable → Option (List ℤ) → Scanned
by_states lp t None = scanned true t
by_states lp t (Some xs) = asked_for lp (greatest_cuts lp t.cuts.waiting xs) t

-- whether each cut of the program has a row
abbrev pub is_full : Program → WarmTable → Bool
is_full lp t = length t.rows == length lp.rows

-- the greatest waiting cut of each successor at the point of a table comes in, where the point violates it
unfoldable pub scan_of : Program → WarmTable → Scanned
scan_of lp t = if is_full lp t then scanned false t else by_states lp t (states_of t lp)

-- Cuts that wait until a point violates them: those of successors whose cuts can be compared in 128 bits.
use Rattle.std.specs.Prelude.{ℕ, ◌-◌, Bool, true, false, ◌&&◌, List, ◌++◌, map, length, replicate, take, drop, get_or, slice_get, slice_set, Option, Some, None, nat_le, if◌then◌else◌}
use Rattle.std.specs.List.{list_all}
use Rattle.std.specs.Option.{option_map}
use Rattle.lp_program.specs.declared.fixed.Fx.{Fx}
use Rattle.lp_program.specs.declared.programs.LpRow.{LpRow}
use Rattle.lp_program.specs.declared.programs.Program.{Program}
use Rattle.lp_table.specs.Numbers.{bits_of}
use Rattle.lp_scale.specs.Walks.{walk}
use Rattle.lp_scale.specs.Exponents.{ColumnTerm, reach_of}

-- the column of a cut's last term, which is the successor's
abbrev pub last_column : List ColumnTerm → Option ℕ
last_column ts = option_map (λ (t : ColumnTerm). t.0) (slice_get ts (length ts - 1))

-- the terms of a cut but the last: its slopes, over the columns of states
abbrev pub slopes_of : List ColumnTerm → List ColumnTerm
slopes_of ts = take (length ts - 1) ts

-- a slope of at most 65 binary digits, in a column whose bounds have at most 71
abbrev pub is_short : List ℕ → ColumnTerm → Bool
is_short rs t = nat_le (bits_of t.1.0) 65 && nat_le (get_or rs t.0 0) 71

-- a side that is there, of at most 108 binary digits
abbrev pub is_short_side : Option Fx → Bool
is_short_side None = false
is_short_side (Some x) = nat_le (bits_of x.0) 108

-- a cut whose value at a point is a sum in 128 bits; rs are the reaches of the columns
unfoldable pub is_narrow : List ℕ → LpRow → Bool
is_narrow rs r = is_short_side r.low && nat_le (length r.terms) 51 && list_all (is_short rs) (slopes_of r.terms)

-- where a row is not narrow its successor's cuts do not wait
abbrev pub closed : List Bool → Option ℕ → List Bool
closed ws None = ws
closed ws (Some j) = slice_set ws j false

abbrev pub closed_by : List ℕ → List Bool → LpRow → List Bool
closed_by rs ws r = if is_narrow rs r then ws else closed ws (last_column r.terms)

-- the columns that wait after some rows, one after the other
abbrev pub all_closed : List ℕ → List Bool → List LpRow → List Bool
all_closed rs ws cuts = walk (λ i ws (r : LpRow). closed_by rs ws r) 0 ws cuts

-- for each of n columns whether it is a successor's, of which the first are the decisions
abbrev pub successors_of : ℕ → ℕ → List Bool
successors_of decisions n = replicate decisions false ++ replicate (n - decisions) true

-- for each column whether it is a successor's, all of whose cuts are narrow
unfoldable pub waiting_of : Program → List Bool
waiting_of lp = all_closed (map reach_of lp.columns) (successors_of lp.decisions (length lp.columns)) (drop lp.own lp.rows)

abbrev pub waits_in : List Bool → Option ℕ → Bool
waits_in ws None = false
waits_in ws (Some j) = get_or ws j false

-- whether a cut waits
unfoldable pub waits : List Bool → LpRow → Bool
waits ws r = waits_in ws (last_column r.terms)

-- A table that is widened by a program: the columns of successors get scales, bounds and costs, and the cuts are put behind the rows.
use Rattle.std.specs.Prelude.{ℕ, ℤ, pos, negsuc, ◌+ℤ◌, ◌-ℤ◌, Bool, false, List, length, replicate, drop, get_or, slice_set, Option, Some, None, nat_le, if◌then◌else◌}
use Rattle.std.specs.Int.{int_max}
use Rattle.std.specs.Ordering.{int_eq}
use Rattle.std.specs.Option.{option_map, option_and_then}
use Rattle.base_num.specs.Sums.{floor_over}
use Rattle.lp_program.specs.declared.programs.Column.{Column}
use Rattle.lp_program.specs.declared.programs.LpRow.{LpRow}
use Rattle.lp_program.specs.declared.programs.Program.{Program}
use Rattle.lp_table.specs.declared.table.WarmTable.{WarmTable}
use Rattle.lp_scale.specs.declared.spans.Span.{Span}
use Rattle.lp_scale.specs.Walks.{walk, run}
use Rattle.lp_scale.specs.Spans.{grown, span_of}
use Rattle.lp_scale.specs.Exponents.{ColumnTerm, reach_of, weight_of}
use Rattle.lp_scale.specs.Scaling.{column_step}
use Rattle.lp_scale.specs.Appending.{appended_cut}
use Rattle.lp_scale.specs.Waiting.{last_column, slopes_of, waiting_of, waits}

-- the greatest of a span, none where it is 0
abbrev pub top : Option Span → Option ℤ
top None = None
top (Some s) = if int_eq s.greatest (pos 0) then None else Some s.greatest

-- the most binary digits of a cut's terms but the last; none where these are 0 or there are no such terms
unfoldable pub top_of : List ℤ → List ColumnTerm → Option ℤ
top_of fs ts = top (span_of (λ k t. Some (weight_of fs t)) (slopes_of ts))

-- the spans of the columns from `decisions` on with one number more, in column j
abbrev pub with_top : ℕ → List (Option Span) → Option ℤ → Option ℕ → List (Option Span)
with_top decisions spans None last = spans
with_top decisions spans (Some x) None = spans
with_top decisions spans (Some x) (Some j) = if nat_le decisions j then slice_set spans j (grown (get_or spans j None) x) else spans

-- for each column of a successor the span of the tops of its cuts
unfoldable pub cut_spans : ℕ → ℕ → List ℤ → List LpRow → List (Option Span)
cut_spans decisions n fs cuts = walk (λ i ss (r : LpRow). with_top decisions ss (top_of fs r.terms) (last_column r.terms)) 0 (replicate n None) cuts

-- the greatest and the least, where the least is taken to be at most 20 below the greatest
abbrev pub tops : Span → ℤ
tops s = s.greatest +ℤ int_max s.least (s.greatest -ℤ pos 20)

-- half of these, less 33; both are 0 where there are none
abbrev pub cut_lift : Option Span → ℤ
cut_lift None = negsuc 32
cut_lift (Some s) = floor_over (tops s) 2 -ℤ pos 33

-- the exponent of a successor's column, by the span of the tops of its cuts; h is the exponent of values
abbrev pub successor_scale : ℤ → Option Span → Column → ℤ
successor_scale h s c = int_max (int_max (cut_lift s) (pos (reach_of c) +ℤ h -ℤ pos 54)) (pos 0)

-- the exponents fs with that of column k written over
abbrev pub with_scale : ℤ → List (Option Span) → ℕ → List ℤ → Column → List ℤ
with_scale h spans k fs c = slice_set fs k (successor_scale h (get_or spans k None) c)

-- with those of the columns from number j on
abbrev pub successor_scales : ℤ → List (Option Span) → ℕ → List Column → List ℤ → List ℤ
successor_scales h spans j cs fs = walk (with_scale h spans) j fs cs

abbrev pub with_scales : List ℤ → WarmTable → WarmTable
with_scales fs t = record t { scales = record t.scales { columns = fs } }

-- the table with the scales of successors' columns, from number `decisions` on, each by the exponents of the other terms of
-- its cuts as they were before
unfoldable pub rescaled : ℕ → List Column → List LpRow → WarmTable → WarmTable
rescaled decisions successors cuts t =
    with_scales (successor_scales t.scales.values (cut_spans decisions (length t.costs) t.scales.columns cuts) decisions successors t.scales.columns) t

-- with these columns as those whose cuts wait
abbrev pub with_waiting : List Bool → WarmTable → WarmTable
with_waiting ws t = record t { cuts = record { rows = t.cuts.rows; waiting = ws } }

-- with the cut more that is the program's row i, unless it waits
abbrev pub put_cut : List Bool → ℕ → LpRow → WarmTable → Option WarmTable
put_cut ws i r t = if waits ws r then Some t else appended_cut i r t

-- with the cuts more that do not wait, of which the first is the program's row i
abbrev pub put_cuts : List Bool → ℕ → List LpRow → WarmTable → Option WarmTable
put_cuts ws i cuts t = run (put_cut ws) i cuts t

-- the table with scales, bounds and costs of successors' columns; absent where a number leaves its range
unfoldable pub widened_columns : Program → WarmTable → Option WarmTable
widened_columns lp t = run column_step lp.decisions (drop lp.decisions lp.columns) (rescaled lp.decisions (drop lp.decisions lp.columns) (drop lp.own lp.rows) t)

-- the table of a program that has successors' columns and cuts, from one of its own part, where the cuts in these columns
-- wait; absent where a number leaves its range
unfoldable pub widened_by : List Bool → Program → WarmTable → Option WarmTable
widened_by ws lp t = option_and_then (put_cuts ws lp.own (drop lp.own lp.rows)) (option_map (with_waiting ws) (widened_columns lp t))

-- the widened table, where cuts wait as far as that can be asked of them
unfoldable pub widened : Program → WarmTable → Option WarmTable
widened lp t = widened_by (waiting_of lp) lp t

-- the widened table, where no cut waits
unfoldable pub widened_in_full : Program → WarmTable → Option WarmTable
widened_in_full lp t = widened_by (replicate (length lp.columns) false) lp t

-- Exponents of two that bring the terms of rows near each other.
use Rattle.std.specs.Prelude.{ℕ, ◌+◌, ◌-◌, ◌≤◌, max, ℤ, pos, ◌+ℤ◌, ◌≤ℤ◌, ◌&&◌, List, map, length, replicate, get_or, slice_set, Option, Some, None, nat_lt, nat_le, if◌then◌else◌}
use Rattle.std.specs.Int.{int_max}
use Rattle.base_num.specs.Sums.{entry}
use Rattle.lp_program.specs.declared.fixed.Fx.{Fx}
use Rattle.lp_program.specs.declared.programs.Column.{Column}
use Rattle.lp_program.specs.declared.programs.LpRow.{LpRow}
use Rattle.lp_scale.specs.declared.spans.Span.{Span}
use Rattle.lp_table.specs.Numbers.{bits_of}
use Rattle.lp_scale.specs.Walks.{walk}
use Rattle.lp_scale.specs.Spans.{grown, span_of, lift, AreBetween}

-- a column number and its factor
abbrev pub ColumnTerm : Type 0
ColumnTerm = ℕ × Fx

-- the binary digits of a column's box
abbrev pub reach_of : Column → ℕ
reach_of c = max (bits_of c.low.0) (bits_of c.high.0)

-- the binary digits that a term can come to, by the reaches of the columns
abbrev pub term_size : List ℕ → ColumnTerm → ℕ
term_size rs t = bits_of t.1.0 + get_or rs t.0 0

-- the greatest size of a row's terms less 20: what a term counts from
abbrev pub border_of : List ℕ → List ColumnTerm → ℕ
border_of rs ts = walk (λ j m t. max m (term_size rs t)) 0 0 ts - 20

-- the binary digits of a term whose column is scaled by the exponents fs
abbrev pub weight_of : List ℤ → ColumnTerm → ℤ
weight_of fs t = pos (bits_of t.1.0) +ℤ entry fs t.0

-- the binary digits of a term whose row is scaled by the exponent e
abbrev pub row_weight_of : ℤ → ColumnTerm → ℤ
row_weight_of e t = pos (bits_of t.1.0) +ℤ e

-- the weight of a term that counts
abbrev pub counted_weight : ℕ → List ℕ → List ℤ → ColumnTerm → Option ℤ
counted_weight border rs fs t = if nat_le border (term_size rs t) then Some (weight_of fs t) else None

-- the exponent of a row whose terms count from a border; a row without such terms keeps the 0 that it begins with
abbrev pub row_lift : ℕ → List ℕ → List ℤ → List ColumnTerm → ℤ
row_lift border rs fs ts = lift (span_of (λ j t. counted_weight border rs fs t) ts)

-- the spans of the columns with one term more, of a row with the exponent e
abbrev pub with_term : ℕ → ℕ → List ℕ → ℤ → List (Option Span) → ColumnTerm → List (Option Span)
with_term decisions border rs e spans t =
    if nat_lt t.0 decisions && nat_le border (term_size rs t) then slice_set spans t.0 (grown (get_or spans t.0 None) (row_weight_of e t)) else spans

-- with some terms more
abbrev pub with_terms : ℕ → ℕ → List ℕ → ℤ → List (Option Span) → List ColumnTerm → List (Option Span)
with_terms decisions border rs e spans ts = walk (λ j ss t. with_term decisions border rs e ss t) 0 spans ts

-- with the terms of one row more
unfoldable pub with_row_terms : ℕ → List ℕ → List ℤ → List (Option Span) → List ColumnTerm → List (Option Span)
with_row_terms decisions rs fs spans ts = with_terms decisions (border_of rs ts) rs (row_lift (border_of rs ts) rs fs ts) spans ts

-- for each column the span of its terms in all rows, each by the exponent of its row
unfoldable pub spans_of : ℕ → List ℕ → List LpRow → List ℤ → List (Option Span)
spans_of decisions rs rows fs = walk (λ i ss (row : LpRow). with_row_terms decisions rs fs ss row.terms) 0 (replicate (length fs) None) rows

-- the exponent of a column is at least 0
abbrev pub column_lift : Option Span → ℤ
column_lift s = int_max (pos 0) (lift s)

-- the exponents of rows by those of columns, and then of columns by those of rows
unfoldable pub pass_of : ℕ → List ℕ → List LpRow → List ℤ → List ℤ
pass_of decisions rs rows fs = map column_lift (spans_of decisions rs rows fs)

-- after four passes
abbrev pub passes_of : ℕ → List ℕ → List LpRow → List ℤ → List ℤ
passes_of decisions rs rows fs = let pass = pass_of decisions rs rows in pass (pass (pass (pass fs)))

-- the exponents of so many columns, of which the first are the decisions, which are scaled: four passes from 0
unfoldable pub columns_of : ℕ → List Column → List LpRow → List ℤ
columns_of count decisions rows = passes_of (length decisions) (map reach_of decisions) rows (replicate count (pos 0))

-- each from 0 to `most`, those past the end too
abbrev pub AreUpTo : ℕ → List ℤ → Type 0
AreUpTo most fs = (j : ℕ) → (pos 0 ≤ℤ entry fs j) × (entry fs j ≤ℤ pos most)

abbrev pub ReachUpTo : ℕ → List ℕ → Type 0
ReachUpTo most rs = (j : ℕ) → get_or rs j 0 ≤ most

abbrev pub SpansBetween : ℤ → ℤ → List (Option Span) → Type 0
SpansBetween low high spans = (j : ℕ) → AreBetween low high (get_or spans j None)

-- The exponents of a whole program, its successors' columns among them.
use Rattle.std.specs.Prelude.{ℤ, List, [], length, take, drop}
use Rattle.lp_program.specs.declared.programs.Program.{Program}
use Rattle.lp_table.specs.declared.table.Scales.{Scales}
use Rattle.lp_scale.specs.Exponents.{columns_of}
use Rattle.lp_scale.specs.Scaling.{costs_scale, values_scale}
use Rattle.lp_scale.specs.Widening.{cut_spans, successor_scales}

-- the exponents of the columns of a program's own part
abbrev pub own_scales : Program → List ℤ
own_scales lp = columns_of (length lp.columns) (take lp.decisions lp.columns) (take lp.own lp.rows)

-- with those of successors' columns, by their cuts; h is the exponent of values
abbrev pub all_scales : Program → List ℤ → ℤ → List ℤ
all_scales lp fs h = successor_scales h (cut_spans lp.decisions (length lp.columns) fs (drop lp.own lp.rows)) lp.decisions (drop lp.decisions lp.columns) fs

-- the exponents by those of all columns; that of costs goes by all columns, and no row has one yet
abbrev pub scales_with : Program → List ℤ → ℤ → Scales
scales_with lp fs h = record { rows = []; columns = fs; costs = costs_scale fs lp.columns; values = h }

-- the exponent of values goes by the decisions
abbrev pub whole_by : Program → List ℤ → ℤ → Scales
whole_by lp fs h = scales_with lp (all_scales lp fs h) h

unfoldable pub whole_scales : Program → Scales
whole_scales lp = whole_by lp (own_scales lp) (values_scale (own_scales lp) (take lp.decisions lp.columns))

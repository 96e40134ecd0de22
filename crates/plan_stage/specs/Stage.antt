-- The stage problem of a node at a state: its decisions and rows, a column for the future cost at each successor, and the successors' cuts.
-- Source: Pereira and Pinto 1991. All numbers are at scale F = 2^32, which is 256 times the scale of cuts and states.
use Rattle.std.specs.Prelude.{ℕ, suc, ◌^◌, ℤ, pos, ◌+ℤ◌, ◌-ℤ◌, ◌*ℤ◌, neg_ℤ, List, [], ◌∷◌, ◌++◌, length, map, zip, get_or, Some, None, ◌==◌, nat_abs, if◌then◌else◌}
use Rattle.std.specs.Int.{int_min, int_max}
use Rattle.std.specs.Option.{option_map}
use Rattle.std.specs.List.{flat_map, range_with_len}
use Rattle.base_num.specs.Sums.{sum_to, entry, at_terms, coefficient, placed}
use Rattle.problem.specs.declared.parts.Decision.{Decision}
use Rattle.problem.specs.declared.parts.Row.{Row}
use Rattle.problem.specs.declared.parts.Node.{Node}
use Rattle.problem.specs.declared.parts.Subproblem.{Subproblem}
use Rattle.problem.specs.Validated.{out_lows, out_highs}
use Rattle.problem.specs.Formulas.{successor_total}
use Rattle.theory.specs.declared.cut.Cut.{Cut}
use Rattle.theory.specs.Pools.{pool, no_cut}
use Rattle.lp_program.specs.declared.fixed.Fx.{Fx}
use Rattle.lp_program.specs.declared.programs.Column.{Column}
use Rattle.lp_program.specs.declared.programs.LpRow.{LpRow}
use Rattle.lp_program.specs.declared.programs.Program.{Program}
use Rattle.lp_program.specs.Numbers.{number}

-- a whole number, and a number at the scale of cuts
abbrev pub whole_fixed : ℤ → Fx
whole_fixed z = number (pos (2 ^ 32) *ℤ z)

abbrev pub scaled : ℤ → Fx
scaled z = number (pos 256 *ℤ z)

-- a decision, whose cost counts as often as the successor weight
abbrev pub decision_column : ℕ → Decision → Column
decision_column q d = record { low = whole_fixed d.low; high = whole_fixed d.high; cost = whole_fixed (pos q *ℤ d.cost) }

-- a slope times the outgoing state k, at the ends of its box
abbrev pub at_low : Subproblem → Cut → ℕ → ℤ
at_low s c k = entry c.beta k *ℤ entry (out_lows s) k

abbrev pub at_high : Subproblem → Cut → ℕ → ℤ
at_high s c k = entry c.beta k *ℤ entry (out_highs s) k

-- the least and the greatest value of a cut over the states that may leave the stage
abbrev pub least_value : Subproblem → Cut → ℤ
least_value s c = c.alpha +ℤ sum_to (length s.outs) (λ k. int_min (at_low s c k) (at_high s c k))

abbrev pub greatest_value : Subproblem → Cut → ℤ
greatest_value s c = c.alpha +ℤ sum_to (length s.outs) (λ k. int_max (at_low s c k) (at_high s c k))

-- the greatest of these over some cuts, and over best
abbrev pub most_from : Subproblem → ℤ → List Cut → ℤ
most_from s best [] = best
most_from s best (c ∷ cs) = most_from s (int_max best (greatest_value s c)) cs

-- the greatest value of some cuts over the states that may leave the stage
abbrev pub box_maximum_of : Subproblem → List Cut → ℤ
box_maximum_of s cuts = most_from s (greatest_value s (get_or cuts 0 no_cut)) cuts

-- the cost of the future at a successor with these cuts: from the base cut's least value to the greatest of all cuts
abbrev pub future_column : Subproblem → ℕ → List Cut → Column
future_column s weight cuts =
    record { low = scaled (least_value s (get_or cuts 0 no_cut)); high = scaled (box_maximum_of s cuts); cost = whole_fixed (pos weight) }

abbrev pub future_columns : Subproblem → List (List Cut) → List ℕ → List ℕ → List Column
future_columns s pools successors weights = map (λ (q : ℕ × ℕ). future_column s q.1 (pool pools q.0)) (zip successors weights)

-- side - b·x - g·omega, with the state x at the scale of cuts
abbrev pub side_at_state : List ℤ → List ℤ → Row → ℤ → Fx
side_at_state values state row side = number (pos (2 ^ 32) *ℤ side -ℤ pos 256 *ℤ at_terms row.states (entry state) -ℤ pos (2 ^ 32) *ℤ at_terms row.randoms (entry values))

-- a row of the subproblem, as it bounds the decisions
abbrev pub own_row : List ℤ → List ℤ → Row → LpRow
own_row values state row =
    record { low = option_map (side_at_state values state row) row.low; high = option_map (side_at_state values state row) row.high; terms = map (λ (t : ℕ × ℤ). (t.0, whole_fixed t.1)) row.decisions }

-- the term of a column, none where the factor is 0
abbrev pub negated_term : ℕ → ℤ → List (ℕ × Fx)
negated_term j z = if nat_abs z == 0 then [] else (j, scaled (neg_ℤ z)) ∷ []

-- minus the slopes, at the decisions that leave as states
abbrev pub slope_terms : Subproblem → Cut → List (ℕ × Fx)
slope_terms s c = flat_map (λ j. negated_term j (coefficient (placed s.outs c.beta) j)) (range_with_len 0 (length s.decisions))

-- the future cost in this column is at least the cut's value: theta - beta·out >= alpha
abbrev pub cut_row : Subproblem → ℕ → Cut → LpRow
cut_row s column c = record { low = Some (scaled c.alpha); high = None; terms = slope_terms s c ++ (column, whole_fixed (pos 1)) ∷ [] }

-- the rows of all cuts of the successors, whose columns begin at this one
abbrev pub cut_rows : Subproblem → List (List Cut) → ℕ → List ℕ → List LpRow
cut_rows s pools column [] = []
cut_rows s pools column (m ∷ ms) = map (cut_row s column) (pool pools m) ++ cut_rows s pools (suc column) ms

-- Program: the stage problem of a node with its subproblem, over these pools, at these values and this state
unfoldable pub stage_program : List (List Cut) → Node → Subproblem → List ℤ → List ℤ → Program
stage_program pools n s values state =
    record {
      columns = map (decision_column (successor_total n.stop n.successor_weights)) s.decisions ++ future_columns s pools n.successors n.successor_weights;
      rows = map (own_row values state) s.rows ++ cut_rows s pools (length s.decisions) n.successors;
      decisions = length s.decisions;
      own = length s.rows;
    }

-- The cuts of successors side by side, and the rows that they stand for.
use Rattle.std.specs.Prelude.{ℕ, suc, ◌≤◌, ◌+◌, ◌^◌, ℤ, pos, ◌*ℤ◌, neg_ℤ, List, [], ◌∷◌, ◌++◌, length, map, Option, Some, None, ◌==◌, nat_abs, if◌then◌else◌}
use Rattle.std.specs.List.{flat_map}
use Rattle.base_num.specs.Sums.{entry}
use Rattle.lp_program.specs.declared.fixed.Fx.{Fx}
use Rattle.lp_program.specs.declared.packed.Out.{Out}
use Rattle.lp_program.specs.declared.packed.PackedView.{PackedView}
use Rattle.lp_program.specs.declared.programs.LpRow.{LpRow}
use Rattle.lp_program.specs.PackedCut.{PackedCut}
use Rattle.lp_program.specs.Numbers.{number, one}

-- a number at the scale of cuts, 2^24
abbrev pub at_scale : ℤ → Fx
at_scale z = number (pos 256 *ℤ z)

-- minus the slope of the state, at the decision, none for 0
abbrev pub slope_term : List ℤ → Out → List (ℕ × Fx)
slope_term slopes o = if nat_abs (entry slopes o.state) == 0 then [] else (o.decision, at_scale (neg_ℤ (entry slopes o.state))) ∷ []

-- the future cost in this column is at least the cut's value
abbrev pub packed_row : List Out → ℕ → PackedCut → LpRow
packed_row outs column c = record { low = Some (at_scale c.height); high = None; terms = flat_map (slope_term c.slopes) outs ++ (column, one) ∷ [] }

-- the rows of each successor's cuts, whose columns begin at this one
abbrev pub packed_rows : List Out → ℕ → List (List PackedCut) → List LpRow
packed_rows outs column [] = []
packed_rows outs column (cs ∷ css) = map (packed_row outs column) cs ++ packed_rows outs (suc column) css

abbrev pub rows_of : PackedView → List LpRow
rows_of v = packed_rows v.outs v.first v.cuts

-- at most 50 states, and columns below 2^16
pub record IsView (v : PackedView) : Type 0 where
  pub few : length v.outs ≤ 50
  pub columns : v.first + length v.cuts ≤ 2 ^ 16

-- the rows that are not listed
abbrev pub unlisted : Option PackedView → List LpRow
unlisted None = []
unlisted (Some v) = rows_of v

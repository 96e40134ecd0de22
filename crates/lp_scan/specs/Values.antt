-- The values of cuts at a point.
use Rattle.std.specs.Prelude.{ℕ, ◌≡◌, ◌<◌, ◌≤◌, ◌^◌, ℤ, pos, neg_ℤ, ◌+ℤ◌, ◌*ℤ◌, Bool, true, List, map, length, drop, replicate, get_or, slice_set, nat_abs, All, Option, Some, None, IfSome, int_lt, FitsSigned, if◌then◌else◌}
use Rattle.std.specs.Int.{w64}
use Rattle.std.specs.Option.{option_map}
use Rattle.base_num.specs.Sums.{entry, floor_over}
use Rattle.lp_program.specs.declared.fixed.Fx.{Fx}
use Rattle.lp_program.specs.declared.programs.LpRow.{LpRow}
use Rattle.lp_program.specs.declared.programs.Program.{Program}
use Rattle.lp_table.specs.declared.table.WarmTable.{WarmTable}
use Rattle.lp_scale.specs.Walks.{walk}
use Rattle.lp_scale.specs.Exponents.{ColumnTerm}
use Rattle.lp_scale.specs.Waiting.{last_column, slopes_of, waits}
use Rattle.lp_price.specs.Found.{points_of}

-- a number at the scale of states, 2^24
abbrev pub state_number : Fx → ℤ
state_number x = floor_over x.0 (2 ^ 8)

-- the point of a table at the scale of states; none where a number on the way leaves 128 bits
unfoldable pub states_of : WarmTable → Program → Option (List ℤ)
states_of t lp = option_map (map state_number) (points_of t lp)

-- the cut's value where all states are 0, at the scale of cuts, 2^24
abbrev pub height_of : Option Fx → ℤ
height_of None = pos 0
height_of (Some low) = floor_over low.0 (2 ^ 8)

-- the slope, at the scale of cuts; the row has it with the other sign
abbrev pub slope_of : Fx → ℤ
slope_of a = floor_over (neg_ℤ a.0) (2 ^ 8)

-- s + a slope times its state
unfoldable pub plus_slope : List ℤ → ℤ → ColumnTerm → ℤ
plus_slope xs s t = s +ℤ slope_of t.1 *ℤ entry xs t.0

-- the value of a cut at some states, at the scale 2^48
unfoldable pub cut_row_value : List ℤ → LpRow → ℤ
cut_row_value xs r = walk (λ k s t. plus_slope xs s t) 0 (height_of r.low *ℤ pos (2 ^ 24)) (slopes_of r.terms)

-- a slope of at most 57 binary digits, and a state of at most 64
pub record IsPlain (xs : List ℤ) (t : ColumnTerm) : Type 0 where
  pub there : t.0 < length xs
  pub slope : nat_abs t.1.0 < 2 ^ 65
  pub state : FitsSigned w64 (entry xs t.0)

-- a cut whose value at some states is a sum in 128 bits
pub record IsValueWithin (xs : List ℤ) (r : LpRow) : Type 0 where
  pub low : IfSome r.low (λ x. nat_abs x.0 < 2 ^ 108)
  pub few : length (slopes_of r.terms) ≤ 50
  pub slopes : All (IsPlain xs) (slopes_of r.terms)

-- a row of the program, and its value
abbrev pub Valued : Type 0
Valued = ℕ × ℤ

-- whether a value is above that of the greatest so far
abbrev pub is_value_greater : Option Valued → ℤ → Bool
is_value_greater None x = true
is_value_greater (Some best) x = int_lt best.1 x

-- the greater of the greatest so far and another, of equals the former
abbrev pub greater_valued : Option Valued → Valued → Option Valued
greater_valued best v = if is_value_greater best v.1 then Some v else best

abbrev pub greatest_in : List (Option Valued) → Option ℕ → Valued → List (Option Valued)
greatest_in bests None v = bests
greatest_in bests (Some j) v = slice_set bests j (greater_valued (get_or bests j None) v)

-- for each column the greatest cut so far, and row i, where it waits
unfoldable pub greatest_step : List Bool → List ℤ → ℕ → List (Option Valued) → LpRow → List (Option Valued)
greatest_step ws xs i bests r = if waits ws r then greatest_in bests (last_column r.terms) (i, cut_row_value xs r) else bests

-- for each column the row of the greatest of its cuts that wait, and its value
unfoldable pub greatest_cuts : Program → List Bool → List ℤ → List (Option Valued)
greatest_cuts lp ws xs = walk (λ i bests (r : LpRow). greatest_step ws xs i bests r) lp.own (replicate (length lp.columns) None) (drop lp.own lp.rows)

-- the row of a cut
pub record IsCutRow (lp : Program) (i : ℕ) : Type 0 where
  pub behind : lp.own ≤ i
  pub there : i < length lp.rows

-- each is none or that of a cut
abbrev pub AreBestCuts : Program → List (Option Valued) → Type 0
AreBestCuts lp bests = All (λ b. IfSome b (λ v. IsCutRow lp v.0)) bests

-- the values of cuts that wait are sums in 128 bits
abbrev pub AreWaitingCutsWithin : List Bool → List ℤ → Program → Type 0
AreWaitingCutsWithin ws xs lp = All (λ (r : LpRow). waits ws r ≡ true → IsValueWithin xs r) (drop lp.own lp.rows)

-- Tables of which some parts are replaced keep their shape.
use Rattle.std.proofs.Common.{◌≡◌, ◌<◌, ℕ, Bool, List, length, All, IfSome}
use Rattle.lp_table.specs.declared.table.Scales.{Scales}
use Rattle.lp_table.specs.declared.table.Bounds.{Bounds}
use Rattle.lp_table.specs.declared.table.Basis.{Basis}
use Rattle.lp_table.specs.declared.table.WarmTable.{WarmTable}
use Rattle.lp_table.specs.Shape.{IsTable, variables}

-- an exponent for each row and each column
pub record AreScales (rows columns : ℕ) (s : Scales) : Type 0 where
  pub row_scales : length s.rows ≡ rows
  pub column_scales : length s.columns ≡ columns

-- bounds for each variable
pub record AreBounds (all : ℕ) (b : Bounds) : Type 0 where
  pub lows : length b.lows ≡ all
  pub ups : length b.ups ≡ all
  pub has_low : length b.has_low ≡ all
  pub has_up : length b.has_up ≡ all

-- as many nonbasic variables as columns, and a place or none for each variable
pub record IsBasis (columns all : ℕ) (b : Basis) : Type 0 where
  pub nonbasic : length b.nonbasic ≡ columns
  pub places : length b.places ≡ all
  pub high : length b.high ≡ columns
  pub numbers : All (λ v. v < all) b.nonbasic
  pub inside : All (λ p. IfSome p (λ j. j < columns)) b.places

pub scales_of : (t : WarmTable) → IsTable t → AreScales (length t.rows) (length t.costs) t.scales
scales_of t s = record { row_scales = s.row_scales; column_scales = s.column_scales }

pub bounds_of : (t : WarmTable) → IsTable t → AreBounds (variables t) t.bounds
bounds_of t s = record { lows = s.lows; ups = s.ups; has_low = s.has_low; has_up = s.has_up }

pub basis_of : (t : WarmTable) → IsTable t → IsBasis (length t.costs) (variables t) t.basis
basis_of t s = record { nonbasic = s.nonbasic; places = s.places; high = s.high; numbers = s.numbers; inside = s.inside }

-- a basis stays one where its nonbasic variables stand at other bounds
pub other_highs : (t : WarmTable) (high : List Bool) → IsTable t → length high ≡ length t.costs → IsBasis (length t.costs) (variables t) (record t.basis { high = high })
other_highs t high s e = record { nonbasic = s.nonbasic; places = s.places; high = e; numbers = s.numbers; inside = s.inside }

-- a table with the costs, the rows and the cuts of one, where its other parts fit them
pub same_shape : (t u : WarmTable) → IsTable t → AreScales (length t.rows) (length t.costs) u.scales → AreBounds (variables t) u.bounds → IsBasis (length t.costs) (variables t) u.basis
    → length u.reduced ≡ length t.costs → length u.lines ≡ length t.costs → length u.values ≡ length t.costs → IsTable (record u { costs = t.costs; rows = t.rows; cuts = t.cuts })
same_shape t u s scales bounds basis reduced lines values =
    record {
      few = s.few;
      waiting = s.waiting;
      row_scales = scales.row_scales;
      column_scales = scales.column_scales;
      lows = bounds.lows;
      ups = bounds.ups;
      has_low = bounds.has_low;
      has_up = bounds.has_up;
      nonbasic = basis.nonbasic;
      places = basis.places;
      high = basis.high;
      reduced = reduced;
      lines = lines;
      values = values;
      numbers = basis.numbers;
      inside = basis.inside;
      terms = s.terms;
    }
